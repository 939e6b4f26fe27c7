-- What restricting a handle does to the places and the store of a table. Assumes nothing.
use Rattle.std.specs.Prelude.{ℕ, Option}
use Rattle.diagrams.specs.Kinds.{Kind}
use Rattle.diagrams.specs.Layouts.{Layout}
use Rattle.diagrams.specs.Diagrams.{Lawful, Diagram}
use Rattle.diagrams.specs.Tasks.{restrict}
use Rattle.diagrams.specs.Places.{Stands}
use Rattle.histories.specs.Stores.{Entries}
use Rattle.places.specs.declared.places.Places.{Places}
use Rattle.places.specs.Contents.{depth}
use Rattle.places.specs.Tables.{holds, Extends}
use Rattle.building.specs.Operations.{restrict_key}
use Rattle.building.specs.Parts.{NoHigher}
use Rattle.building.specs.Calls.{Ended}

module _ (K : Kind) (L : Layout) (i c h : ℕ) where
  -- What restricting the handle h did: places in use stay, the answer stands no higher than h, and the call is done.
  pub record Restricted (t u : Places) (f g : Entries) (r : Option ℕ) : Type 0 where
    pub kept : Extends t u
    pub inside : NoHigher u (depth (holds t h)) r
    pub done : Lawful K L → (d : Diagram) → Stands (holds t) d h → Ended K L (restrict d i c) (restrict_key h i c) t u f g r
