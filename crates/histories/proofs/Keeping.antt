-- A step leaves every handle but those that a sweep frees. Assumes nothing.
use Rattle.std.proofs.Common.{◌≡◌, ℕ, sym, refl, ap, ◌∙◌, inl, inr}
use native.Mathlib.Decide.{ℕ_discrete}
use Rattle.diagrams.specs.Kinds.{Kind}
use Rattle.diagrams.specs.Layouts.{Layout}
use Rattle.diagrams.specs.Diagrams.{Diagram, leaf, node}
use Rattle.diagrams.specs.Places.{free, Place}
use Rattle.diagrams.proofs.Places.{stands_used, stands_kept}
use Rattle.histories.specs.Tables.{Model, place, content, Live, StandsFor}
use Rattle.histories.specs.Requests.{Call, build, read, hold, let_go, sweep, look, release, reopen, Asked, Answer}
use Rattle.histories.specs.Steps.{Reached, to_low, to_high, PlacesStay, Gains, Counted, Swept, Does, Step}
use Rattle.histories.specs.Histories.{Frees}
use Rattle.histories.proofs.Standing.{same_content, stay_place}

-- Every handle stands for what it stood for.
abbrev pub Moves : Model → Model → Type 0
Moves m n = (d : Diagram) (h : ℕ) → StandsFor m d h → StandsFor n d h

pub same_moves : (m n : Model) → ((h : ℕ) → content n h ≡ content m h) → Moves m n
same_moves m n same = stands_kept (content m) (content n) (λ h _. same h)

pub stay_moves : (m n : Model) → PlacesStay m n → Moves m n
stay_moves m n stay = same_moves m n (λ h. same_content m n h (stay_place m n stay h))

-- Where one count changes, each place holds what it held.
pub counted_content : (m n : Model) (g x : ℕ) → Counted m g x n → (h : ℕ) → content n h ≡ content m h
counted_content m n g x s h =
    elim (ℕ_discrete h g) [
      | yes e ↦ ap (content n) e ∙ ap (λ (p : Place). p.content) s.here ∙ ap (content m) (sym e)
      | no e ↦ same_content m n h (s.elsewhere h e)
    ]

pub gains_moves : (m n : Model) (P : Diagram → Type 0) → Gains m n P → Moves m n
gains_moves m n P g = stands_kept (content m) (content n) (λ h live. same_content m n h (g.kept h live))

pub swept_place : (m n : Model) (x : ℕ) → Swept m x n → (h : ℕ) → Reached m h → place n h ≡ place m h
swept_place m n x s h r = elim (s.each h) [ inl q ↦ q.1 | inr q ↦ absurd (q.0 r) ]

pub swept_stands : (m n : Model) (x : ℕ) → Swept m x n → (d : Diagram) (h : ℕ) → Reached m h → StandsFor m d h → StandsFor n d h
swept_stands m n x s (leaf v) h r p = same_content m n h (swept_place m n x s h r) ∙ p
swept_stands m n x s (node l a b) h r p = (
  p.0,
  p.1,
  same_content m n h (swept_place m n x s h r) ∙ p.2,
  swept_stands m n x s a p.0 (to_low r p.2) p.3,
  swept_stands m n x s b p.1 (to_high r p.2) p.4,
)

module _ (K : Kind) (L : Layout) (m n : Model) (q : Asked) (a : Answer) where
  does_stands : (c : Call) → Does K L m q c a n → (d : Diagram) (h : ℕ) → StandsFor m d h
      → ¬ ((c ≡ sweep) × Live m h × (content n h ≡ free)) → StandsFor n d h
  does_stands (build b) s d h p _ = gains_moves m n _ s.2.worked.gains d h p
  does_stands (read bs) s d h p _ = gains_moves m n _ s.2.gains d h p
  does_stands (hold g) s d h p _ = same_moves m n (counted_content m n g s.0 s.2) d h p
  does_stands (let_go g) s d h p _ = same_moves m n (counted_content m n g s.0 s.2) d h p
  does_stands sweep s d h p u =
      elim (s.2.each h) [
        | inl r ↦ swept_stands m n s.0 s.2 d h r.0 p
        | inr r ↦ absurd (u (refl, stands_used (content m) d h p, ap (λ (p : Place). p.content) r.1))
      ]
  does_stands (look l) s d h p _ = stay_moves m n s.2 d h p
  does_stands release s d h p _ = stay_moves m n s.2 d h p
  does_stands reopen s d h p _ = stay_moves m n s.2 d h p

  pub step_stands : Step K L m q a n → (d : Diagram) (h : ℕ) → StandsFor m d h → ¬ Frees h m q n → StandsFor n d h
  step_stands s d h p u =
      elim s.outcome [
        | inl r ↦ does_stands q.call r.does d h p u
        | inr r ↦ stay_moves m n r.places d h p
      ]
