-- What building does to the places of a table, as the specification of tables sees it. Assumes nothing.
use Rattle.std.specs.Prelude.{ℕ, [], ◌∷◌, Some, None, Option}
use Rattle.diagrams.specs.Kinds.{Kind}
use Rattle.diagrams.specs.Layouts.{Layout}
use Rattle.diagrams.specs.Diagrams.{Lawful}
use Rattle.diagrams.specs.Tasks.{Task, Fit, result}
use Rattle.histories.specs.Stores.{Entries}
use Rattle.histories.specs.Tables.{Phase, Model, StandsFor, Outnumber}
use Rattle.histories.specs.Steps.{Needed, Gains}
use Rattle.histories.proofs.Sound.{Sound}
use Rattle.places.specs.declared.places.Places.{Places}
use Rattle.places.specs.Tables.{list_of}

-- The table of a layout that has these places, with a store that answers so, in a phase.
abbrev pub model : Layout → Entries → Phase → Places → Model
model L entries phase places = record { layout = L; places = list_of places; entries = entries; phase = phase }

module _ (K : Kind) (L : Layout) (task : Task) where
  -- The handle h stands for the answer of a call, and what came into use is what the call needs.
  pub record Brought (m n : Model) (h : ℕ) : Type 0 where
    pub stands : StandsFor n (result K L task) h
    pub gains : Gains m n (Needed K L (task ∷ []))

  -- A call brought a handle; or there was no room for what it needs.
  abbrev pub Went : Model → Model → Option ℕ → Type 0
  Went m n None = Outnumber m (Needed K L (task ∷ []))
  Went m n (Some h) = Brought m n h

  -- What the call did from the places t to u, of whatever sound table they are.
  abbrev pub Works : Places → Places → Option ℕ → Type 0
  Works t u r = Lawful K L → Fit K L 0 task → (entries : Entries) (phase : Phase) → Sound K L (model L entries phase t)
      → Went (model L entries phase t) (model L entries phase u) r
