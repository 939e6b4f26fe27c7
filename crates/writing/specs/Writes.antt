-- What writing the sheet of a handle answers, and what it leaves in the output. Assumes nothing.
use Rattle.std.specs.Prelude.{◌≡◌, ℕ, ◌<◌, ◌≤◌, ◌⊎◌, List, ◌++◌, length, drop, Ok, Err, Result}
use Rattle.diagrams.specs.Kinds.{Kind}
use Rattle.diagrams.specs.Layouts.{Layout}
use Rattle.diagrams.specs.Diagrams.{Diagram, Good}
use Rattle.diagrams.specs.Sheets.{sheet}
use Rattle.diagrams.specs.Places.{Stands}
use Rattle.refusals.specs.declared.refusal.Refusal.{Refusal}
use Rattle.refusals.specs.declared.refusal.Refusal.TheVariants.{NotLive, WalkTooShort, OutputTooShort}
use Rattle.places.specs.declared.places.Places.{Places}
use Rattle.places.specs.Tables.{holds, Used}

module _ (K : Kind) (L : Layout) where
  -- The sheet of d fits into the output and stands there, its length is x, and bytes past it stay.
  pub record Put (d : Diagram) (before after : List ℕ) (x : ℕ) : Type 0 where
    pub long : x ≡ length (sheet K L d)
    pub fits : length (sheet K L d) ≤ length before
    pub bytes : after ≡ sheet K L d ++ drop (length (sheet K L d)) before

  -- A refusal of writing, which leaves the output: the handle is looked at first, then the walk list, then the output.
  abbrev pub Unwritten : Places → ℕ → List ℕ → List ℕ → Refusal → Type 0
  Unwritten t h walk output e =
      ((e ≡ NotLive) × (Used t h → ⊥))
      ⊎ ((e ≡ WalkTooShort) × Used t h × (length walk < t.capacity))
      ⊎ ((e ≡ OutputTooShort) × Used t h × (t.capacity ≤ length walk)
      × ((d : Diagram) → Stands (holds t) d h → Good K L 0 d → length output < length (sheet K L d)))

  -- What writing answers: the sheet's length, or the first refusal.
  abbrev pub Written : Places → ℕ → List ℕ → List ℕ → List ℕ → Result ℕ Refusal → Type 0
  Written t h walk before after (Ok x) =
      Used t h × (t.capacity ≤ length walk) × ((d : Diagram) → Stands (holds t) d h → Good K L 0 d → Put d before after x)
  Written t h walk before after (Err e) = Unwritten t h walk before e × (after ≡ before)
