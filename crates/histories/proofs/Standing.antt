-- Handles that stand for diagrams, and rules that agree. Assumes nothing.
use Rattle.std.proofs.Common.{◌≡◌, ℕ, ◌<◌, ◌↔◌, get_or, sym, refl, ap, ◌∙◌, subst, arith}
use native.Mathlib.Decide.{dec_lt}
use Rattle.std.proofs.lemmas.List.{get_or_past}
use Rattle.diagrams.specs.Kinds.{Kind}
use Rattle.diagrams.specs.Layouts.{Layout}
use Rattle.diagrams.specs.Diagrams.{Lawful, Diagram, node, rule, Good}
use Rattle.diagrams.specs.Sizes.{Within, itself, in_low, in_high}
use Rattle.diagrams.specs.Places.{Content, free, leaf_word, node_at, Place, vacant, Stands}
use Rattle.diagrams.proofs.Places.{stands_for_one, stands_used, one_handle}
use Rattle.diagrams.proofs.Canon.{canonical}
use Rattle.histories.specs.Tables.{Model, capacity, place, content, count, Live, StandsFor, Agree, HasRule}
use Rattle.histories.specs.Steps.{PlacesStay}
use Rattle.histories.proofs.Sound.{Sound}

-- Whether a place is free.
pub free? : (c : Content) → Dec (c ≡ free)
free? free = yes refl
free? (leaf_word v) = no (λ e. let z : ◌≡◌ {A = ℕ} 0 1 = cc in omega arith)
free? (node_at l x y) = no (λ e. let z : ◌≡◌ {A = ℕ} 0 1 = cc in omega arith)

-- A place that stays holds what it held, and is held as often.
pub same_content : (m n : Model) (h : ℕ) → place n h ≡ place m h → content n h ≡ content m h
same_content m n h e = ap (λ (p : Place). p.content) e

pub same_count : (m n : Model) (h : ℕ) → place n h ≡ place m h → count n h ≡ count m h
same_count m n h e = ap (λ (p : Place). p.count) e

-- Where all places stay, each does.
pub stay_place : (m n : Model) → PlacesStay m n → (h : ℕ) → place n h ≡ place m h
stay_place m n e h = ap (λ ps. get_or ps h vacant) e

-- A live handle lies below the capacity.
pub live_within : (m : Model) (h : ℕ) → Live m h → h < capacity m
live_within m h live =
    elim (dec_lt h (capacity m)) [ yes l ↦ l | no n ↦ absurd (live (ap (λ (p : Place). p.content) (get_or_past m.places h vacant (omega arith)))) ]

-- The parts of a diagram in use are in use.
pub part_stands : (at : ℕ → Content) (e d : Diagram) (h : ℕ) → Stands at d h → Within e d → (g : ℕ) × Stands at e g
part_stands at e d h p (itself r) = (h, subst (λ x. Stands at x h) (sym r) p)
part_stands at e (node l a b) h p (in_low q) = part_stands at e a p.0 p.3 q
part_stands at e (node l a b) h p (in_high q) = part_stands at e b p.1 p.4 q

module _ (K : Kind) (L : Layout) where
  -- A handle's rule is that of the diagram for which it stands.
  pub rule_stands : (m : Model) (d : Diagram) (h : ℕ) (f : ℕ → ℕ) → StandsFor m d h → HasRule K L m h f → Agree L (rule K L d) f
  rule_stands m d h f p r w k = ap (λ x. rule K L x w) (stands_for_one (content m) d r.0 h p r.1) ∙ r.2 w k

  -- Where a handle goes on standing for what it stood for, it keeps its rule.
  pub rule_moves : (m n : Model) (h : ℕ) (f : ℕ → ℕ) → ((d : Diagram) → StandsFor m d h → StandsFor n d h) → HasRule K L m h f → HasRule K L n h f
  rule_moves m n h f move r = (r.0, move r.0 r.1, r.2)

module _ {K : Kind} {L : Layout} where
  -- A handle stands for a good diagram.
  pub stands_good : (m : Model) → Sound K L m → (d : Diagram) (h : ℕ) → StandsFor m d h → Good K L 0 d
  stands_good m s d h p =
      let g = s.good h (stands_used (content m) d h p) in
      rw (stands_for_one (content m) d g.0 h p g.2) g.1

  module _ (ok : Lawful K L) where
    -- Handles of two tables stand for one diagram just where their rules agree.
    pub rules_meet : (m m' : Model) → Sound K L m → Sound K L m' → (g h : ℕ) (f f' : ℕ → ℕ)
        → (r : HasRule K L m g f) (r' : HasRule K L m' h f') → (r.0 ≡ r'.0) ↔ Agree L f f'
    rules_meet m m' s s' g h f f' r r' = (
      λ e w k. sym (r.2 w k) ∙ ap (λ d. rule K L d w) e ∙ r'.2 w k,
      λ e. canonical K L ok r.0 r'.0 (stands_good m s r.0 g r.1) (stands_good m' s' r'.0 h r'.1)
          (λ w k. r.2 w k ∙ e w k ∙ sym (r'.2 w k)),
    )

    -- Two handles of one table are equal just where their rules agree.
    pub handles_meet : (m : Model) → Sound K L m → (g h : ℕ) (f f' : ℕ → ℕ) → HasRule K L m g f → HasRule K L m h f' → (g ≡ h) ↔ Agree L f f'
    handles_meet m s g h f f' r r' =
        let meet = rules_meet m m s s g h f f' r r' in (
          λ e. meet.0 (stands_for_one (content m) r.0 r'.0 h (subst (StandsFor m r.0) e r.1) r'.1),
          λ e. one_handle (content m) s.unshared r'.0 g h (subst (λ d. StandsFor m d g) (meet.1 e) r.1) r'.1,
        )
