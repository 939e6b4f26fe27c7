-- What reading a sheet into the places of a table answers. Assumes nothing.
use Rattle.std.specs.Prelude.{◌≡◌, ℕ, ◌<◌, ◌≤◌, List, length, Ok, Err, Result}
use Rattle.diagrams.specs.Kinds.{Kind}
use Rattle.diagrams.specs.Layouts.{Layout}
use Rattle.diagrams.specs.Diagrams.{Diagram}
use Rattle.diagrams.specs.Sizes.{Within}
use Rattle.diagrams.specs.Reading.{read_sheet, drawn}
use Rattle.histories.specs.Stores.{Entries}
use Rattle.histories.specs.Tables.{Phase, StandsFor}
use Rattle.histories.specs.Steps.{Gains, Fills}
use Rattle.histories.proofs.Sound.{Sound}
use Rattle.places.specs.declared.places.Places.{Places}
use Rattle.refusals.specs.declared.fault.TableFault.{TableFault}
use Rattle.refusals.specs.declared.fault.TableFault.TheVariants.{Sheet, ShortList, Full}
use Rattle.sheets.specs.Faults.{failed}
use Rattle.building.specs.Work.{model}

module _ (K : Kind) (L : Layout) (t u : Places) (bytes : List ℕ) where
  -- The bytes are the sheet of a diagram, which came into use from the places t to u; h stands for it, of whatever sound table the places are.
  pub record Taken (h : ℕ) : Type 0 where
    pub diagram : Diagram
    pub told : read_sheet K L t.capacity bytes ≡ drawn diagram
    pub stands : (entries : Entries) (phase : Phase) → Sound K L (model L entries phase t) → StandsFor (model L entries phase u) diagram h
    pub gains : (entries : Entries) (phase : Phase) → Sound K L (model L entries phase t)
        → Gains (model L entries phase t) (model L entries phase u) (λ x. Within x diagram)

  -- The bytes are the sheet of a diagram, of which the record at a byte place is the first that finds the table full.
  pub record CrowdedAt (place : ℕ) : Type 0 where
    pub diagram : Diagram
    pub told : read_sheet K L t.capacity bytes ≡ drawn diagram
    pub fills : (entries : Entries) (phase : Phase) → Sound K L (model L entries phase t) → Fills K L (model L entries phase t) diagram place

  -- What reading answers where the walk list is long enough.
  abbrev pub Read_in : Result ℕ TableFault → Type 0
  Read_in (Ok h) = Taken h
  Read_in (Err (Sheet f)) = (read_sheet K L t.capacity bytes ≡ failed f) × (u ≡ t)
  Read_in (Err ShortList) = ⊥
  Read_in (Err (Full place)) = CrowdedAt place

  -- What reading answers. The walk list is looked at first; a table that is full is left half filled, for its owner to undo.
  abbrev pub Reads : List ℕ → Result ℕ TableFault → Type 0
  Reads walk (Ok h) = (t.capacity ≤ length walk) × Taken h
  Reads walk (Err (Sheet f)) = (t.capacity ≤ length walk) × Read_in (Err (Sheet f))
  Reads walk (Err ShortList) = (length walk < t.capacity) × (u ≡ t)
  Reads walk (Err (Full place)) = (t.capacity ≤ length walk) × CrowdedAt place
