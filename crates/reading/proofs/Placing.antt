-- Records get their places one after the other. Assumes nothing.
use Rattle.std.proofs.Common.{◌≡◌, ℕ, ◌≤◌, ◌⊎◌, List, [], ◌∷◌, ◌++◌, get_or, sym, refl, ap, ◌∙◌, subst, ap₂, inl, inr, ⊎_elim, arith}
use mathlib.Core.List.Memᴰ
use mathlib.Core.List.{Memᴰ}
use Rattle.diagrams.specs.Kinds.{Kind}
use Rattle.diagrams.specs.Layouts.{Layout, Valid}
use Rattle.diagrams.specs.Diagrams.{Diagram, leaf, node, Good}
use Rattle.diagrams.specs.Sheets.{number}
use Rattle.diagrams.specs.Reading.{Children}
use Rattle.diagrams.specs.Places.{Content, leaf_word, node_at, Stands}
use Rattle.diagrams.proofs.Places.{one_handle}
use Rattle.diagrams.proofs.Visits.{mem_last, number_within, number_more, nth_number}
use Rattle.places.specs.declared.places.Places.{Places}
use Rattle.places.specs.Contents.{depth}
use Rattle.places.specs.Tables.{holds, Used, Under, Extends, Given}
use Rattle.places.proofs.Standing.{stands_used}
use Rattle.places.proofs.Extending.{stands_still, stays, then, given_only, unshared}
use Rattle.walks.specs.Walks.{StandFor}
use Rattle.walks.proofs.Standing.{stand_push, stand_nth}

-- What the place of a record is to hold, where `handles` has those of the records before it: a leaf's word, or a node's level and its children's handles.
abbrev pub wanted : List ℕ → List Diagram → Diagram → Content
wanted handles seen (leaf v) = leaf_word v
wanted handles seen (node l a b) = node_at l (get_or handles (number a seen) 0) (get_or handles (number b seen) 0)

-- From the places t to u some diagrams got their handles, one by one: places in use stay, and those diagrams alone came into use.
pub record Placed (t u : Places) (diagrams : List Diagram) (handles : List ℕ) : Type 0 where
  pub extends : Extends t u
  pub stand : StandFor (holds u) handles diagrams
  pub only : (h : ℕ) → Used u h → Used t h ⊎ ((d : Diagram) × Memᴰ d diagrams × Stands (holds u) d h)

-- Handles that stand for diagrams, one by one.
module _ (at : ℕ → Content) where
  -- The handle with a diagram's number stands for it.
  pub stand_number : (hs : List ℕ) (ds : List Diagram) (d : Diagram) → StandFor at hs ds → Memᴰ d ds → Stands at d (get_or hs (number d ds) 0)
  stand_number hs ds d s q =
      subst (λ x. Stands at x (get_or hs (number d ds) 0)) (nth_number d ds q) (stand_nth at hs ds (number d ds) s (number_within d ds q))

  pub stand_member : (hs : List ℕ) (ds : List Diagram) (d : Diagram) → StandFor at hs ds → Memᴰ d ds → (h : ℕ) × Stands at d h
  stand_member hs ds d s q = (get_or hs (number d ds) 0, stand_number hs ds d s q)

  pub stand_still : (after : ℕ → Content) → ((d : Diagram) (h : ℕ) → Stands at d h → Stands after d h)
      → (hs : List ℕ) (ds : List Diagram) → StandFor at hs ds → StandFor after hs ds
  stand_still after keep [] [] s = tt
  stand_still after keep [] (d ∷ ds) s = absurd s
  stand_still after keep (h ∷ hs) [] s = absurd s
  stand_still after keep (h ∷ hs) (d ∷ ds) s = (keep d h s.0, stand_still after keep hs ds s.1)

-- What a record's place is to hold depends on the records before it alone.
pub wanted_more : (hs : List ℕ) (ds more : List Diagram) (d : Diagram) → Children d ds → wanted hs (ds ++ more) d ≡ wanted hs ds d
wanted_more hs ds more (leaf v) c = refl
wanted_more hs ds more (node l a b) c =
    ap₂ (λ x y. node_at l (get_or hs x 0) (get_or hs y 0)) (number_more a ds more c.0) (number_more b ds more c.1)

module _ (u : Places) (hs : List ℕ) (ds : List Diagram) (s : StandFor (holds u) hs ds) where
  -- A place that stands for the record's diagram holds just that.
  pub wanted_told : (d : Diagram) → Children d ds → (h : ℕ) → Stands (holds u) d h → holds u h ≡ wanted hs ds d
  wanted_told (leaf v) c h p = p
  wanted_told (node l a b) c h p =
      p.2
      ∙ ap₂ (node_at l) (one_handle (holds u) (unshared u) a p.0 (get_or hs (number a ds) 0) p.3 (stand_number (holds u) hs ds a s c.0))
      (one_handle (holds u) (unshared u) b p.1 (get_or hs (number b ds) 0) p.4 (stand_number (holds u) hs ds b s c.1))

  -- And one that holds it stands for the diagram.
  pub wanted_stands : (v : Places) → Extends u v → (d : Diagram) → Children d ds → (h : ℕ) → holds v h ≡ wanted hs ds d → Stands (holds v) d h
  wanted_stands v x (leaf w) c h e = e
  wanted_stands v x (node l a b) c h e = (
    get_or hs (number a ds) 0,
    get_or hs (number b ds) 0,
    e,
    stands_still x a (get_or hs (number a ds) 0) (stand_number (holds u) hs ds a s c.0),
    stands_still x b (get_or hs (number b ds) 0) (stand_number (holds u) hs ds b s c.1),
  )

-- A handle of a good diagram stands as deep as the diagram.
pub stands_under : (K : Kind) (L : Layout) → Valid L → (t : Places) (l : ℕ) (d : Diagram) (h : ℕ) → l ≤ 32 → Good K L l d → Stands (holds t) d h → Under t l h
stands_under K L valid t l d h small g p = record { used = stands_used (holds t) d h p; level = level d g p }
  where
    level : (e : Diagram) → Good K L l e → Stands (holds t) e h → l ≤ depth (holds t h)
    level (leaf v) good s = omega (arith, ap depth s)
    level (node m a b) good s = omega (arith, ap depth s.2, good.0)

pub placed_none : (t : Places) → Placed t t [] []
placed_none t = record { extends = stays t; stand = tt; only = λ h u. inl u }

-- One record more, in the place that it was given.
pub placed_more : {t u v : Places} {ds : List Diagram} {hs : List ℕ} → Placed t u ds hs → (d : Diagram) → Children d ds → (h : ℕ)
    → Given u v (wanted hs ds d) h → Placed t v (ds ++ (d ∷ [])) (hs ++ (h ∷ []))
placed_more {t} {u} {v} {ds} {hs} p d c h n = record {
  extends = then p.extends n.extends;
  stand = stand_push (holds v) hs ds h d (stand_still (holds u) (holds v) (stands_still n.extends) hs ds p.stand) here;
  only = λ g used. ⊎_elim (λ old. earlier g (p.only g old)) (λ e. inr (d, mem_last d ds, subst (Stands (holds v) d) (sym e) here)) (given_only n g used);
}
  where
    here : Stands (holds v) d h
    here = wanted_stands u hs ds p.stand v n.extends d c h n.here

    earlier : (g : ℕ) → Used t g ⊎ ((e : Diagram) × Memᴰ e ds × Stands (holds u) e g)
        → Used t g ⊎ ((e : Diagram) × Memᴰ e (ds ++ (d ∷ [])) × Stands (holds v) e g)
    earlier g (inl old) = inl old
    earlier g (inr o) = inr (o.0, Memᴰ.append_left (d ∷ []) o.1, stands_still n.extends o.0 g o.2)
