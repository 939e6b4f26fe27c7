-- What reading a sheet on an open table asks and answers, and how it leaves the table. Assumes nothing.
use Rattle.std.specs.Prelude.{◌≡◌, ℕ, ◌<◌, ◌≤◌, List, [], length, Ok, Err, Result}
use Rattle.diagrams.specs.Kinds.{Kind}
use Rattle.diagrams.specs.Layouts.{Layout as Plan}
use Rattle.diagrams.specs.Diagrams.{Diagram}
use Rattle.diagrams.specs.Reading.{read_sheet, drawn, fault}
use Rattle.histories.specs.Stores.{Entries, Forgotten}
use Rattle.histories.specs.Requests.{read, Asked, Reply, gives, refused, Answer}
use Rattle.histories.specs.Steps.{layer}
use Rattle.refusals.specs.Refusals.{number}
use Rattle.layouts.specs.View.{view}
use Rattle.places.specs.declared.places.Places.{Places}
use Rattle.refusals.specs.declared.fault.TableFault.{TableFault}
use Rattle.refusals.specs.declared.fault.TableFault.TheVariants.{Sheet, ShortList, Full}
use Rattle.refusals.specs.Faults.{sheet_refusal, sheet_place, table_refusal, table_place}
use Rattle.reading.specs.Reads.{Reads}
use Rattle.tables.specs.declared.open.Open.{Open}
use Rattle.tables.specs.Models.{asked, OpenTakes}

-- Reading some bytes, with the walk list that is lent.
abbrev pub read_asked : List ℕ → List ℕ → Asked
read_asked bytes walk = asked (read bytes) walk []

-- A handle, or the number, the layer and the byte place of a fault.
abbrev pub read_reply : Result ℕ TableFault → Reply
read_reply (Ok h) = gives h
read_reply (Err f) = refused (number (table_refusal f)) (layer (number (table_refusal f))) (table_place f)

-- The reply, with the walk list as it is left.
abbrev pub read_answer : Result ℕ TableFault → List ℕ → Answer
read_answer r walk = record { reply = read_reply r; walk = walk; output = [] }

-- What the answer tells of the bytes, given the capacity of the table: a walk list that is too short is told first; else reading the bytes comes to
-- exactly the fault that is told, or to a diagram, which the table takes or has no room for.
abbrev pub Comes : Kind → Plan → ℕ → List ℕ → List ℕ → Result ℕ TableFault → Type 0
Comes K L limit bytes walk (Ok h) = (limit ≤ length walk) × ((d : Diagram) × (read_sheet K L limit bytes ≡ drawn d))
Comes K L limit bytes walk (Err (Sheet f)) =
    (limit ≤ length walk) × (read_sheet K L limit bytes ≡ fault (number (sheet_refusal f)) (sheet_place f))
Comes K L limit bytes walk (Err ShortList) = length walk < limit
Comes K L limit bytes walk (Err (Full place)) = (limit ≤ length walk) × ((d : Diagram) × (read_sheet K L limit bytes ≡ drawn d))

-- How reading leaves places and store, where the places were t and filling made them u: a table that is full comes back, and its store forgets.
abbrev pub Left : Places → Places → Entries → Places → Entries → Result ℕ TableFault → Type 0
Left t u f v g (Ok h) = (v ≡ u) × (g ≡ f)
Left t u f v g (Err (Sheet e)) = (v ≡ u) × (g ≡ f)
Left t u f v g (Err ShortList) = (v ≡ u) × (g ≡ f)
Left t u f v g (Err (Full place)) = (v ≡ t) × Forgotten g

-- What a fault does to a table whose places were saved before filling.
pub record TurnedBack {K S : Type 0} (entries : S → Entries) (before after : Open K S) (saved : Places) (fault : TableFault) : Type 0 where
  pub layout : after.layout ≡ before.layout
  pub left : Left saved before.places (entries before.store) after.places (entries after.store) (Err fault)

module _ {K S : Type 0} (kind : Kind) (entries : S → Entries) where
  -- What reading did to an open table.
  pub record Took (before after : Open K S) (bytes walk : List ℕ) (r : Result ℕ TableFault) : Type 0 where
    pub layout : after.layout ≡ before.layout
    pub filled : Places
    pub reads : Reads kind (view before.layout) before.places filled bytes walk r
    pub left : Left before.places filled (entries before.store) after.places (entries after.store) r

  -- What reading promises: on a table to which steps lead from a making, it takes its step.
  abbrev pub OpenReads : Open K S → List ℕ → List ℕ → Result ℕ TableFault → List ℕ → Open K S → Type 0
  OpenReads before bytes walk r left after = OpenTakes kind entries before (read_asked bytes walk) (read_answer r left) after
