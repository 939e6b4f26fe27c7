-- What the shortcuts of a combination answer to handles. Assumes nothing.
use Rattle.std.specs.Prelude.{◌≡◌, ℕ, ◌<◌, Some, None, Option, min}
use Rattle.std.proofs.Math.Option.{none, some}
use Rattle.diagrams.specs.Kinds.{Kind}
use Rattle.diagrams.specs.Diagrams.{Diagram, leaf}
use Rattle.diagrams.specs.Tasks.{Operation}
use Rattle.diagrams.specs.Building.{quick, leaves}
use Rattle.diagrams.specs.Places.{leaf_word, Stands}
use Rattle.places.specs.declared.places.Places.{Places}
use Rattle.places.specs.Contents.{depth}
use Rattle.places.specs.Tables.{holds, Under}
use Rattle.building.specs.declared.quick.Answer.{Answer}
use Rattle.building.specs.declared.quick.Answer.TheVariants.{Handle, Value}

-- The higher of the levels of two handles.
abbrev pub floor : Places → ℕ → ℕ → ℕ
floor t a b = min (depth (holds t a)) (depth (holds t b))

-- Places 0 and 1 hold zero and one.
pub record Rooted (K : Kind) (t : Places) : Type 0 where
  pub zero : holds t 0 ≡ leaf_word K.zero
  pub one : holds t 1 ≡ leaf_word K.one

module _ (K : Kind) (t : Places) (o : Operation) (a b : ℕ) where
  -- What an answer says of the diagrams d and e: the handle or the value of their shortcut, or that there is none.
  abbrev pub Short : Option Answer → Diagram → Diagram → Type 0
  Short (Some (Handle h)) d e = (x : Diagram) × (quick K o d e ≡ some x) × Stands (holds t) x h
  Short (Some (Value v)) d e = quick K o d e ≡ some (leaf v)
  Short None d e = quick K o d e ≡ none

  -- What it says of places alone: the handle stands no higher than a and b, and what splits stands on a level.
  abbrev pub Safe : Option Answer → Type 0
  Safe (Some (Handle h)) = Under t (floor t a b) h
  Safe (Some (Value v)) = Unit {0}
  Safe None = floor t a b < 32

  -- The answer of the shortcuts.
  pub record Quickly (r : Option Answer) : Type 0 where
    pub safe : Safe r
    pub short : Rooted K t → (d e : Diagram) → Stands (holds t) d a → Stands (holds t) e b → Short r d e

  -- What an answer says where only two leaves are left to look for.
  abbrev pub Leafy : Option Answer → Diagram → Diagram → Type 0
  Leafy (Some (Handle h)) d e = ⊥
  Leafy (Some (Value v)) d e = leaves K o d e ≡ some (leaf v)
  Leafy None d e = leaves K o d e ≡ none

  -- The answer of the last shortcut, two leaves.
  pub record Last (r : Option Answer) : Type 0 where
    pub safe : Safe r
    pub short : (d e : Diagram) → Stands (holds t) d a → Stands (holds t) e b → Leafy r d e
