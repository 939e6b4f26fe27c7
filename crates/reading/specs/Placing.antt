-- The records of a sheet and the places that they get. Assumes nothing.
use Rattle.std.specs.Prelude.{ℕ, ◌+◌, ◌<◌, ◌≤◌, List, [], length, take, Ok, Err, Result, slice_index}
use mathlib.Core.List.{Memᴰ}
use Rattle.diagrams.specs.Kinds.{Kind}
use Rattle.diagrams.specs.Layouts.{Layout, Valid}
use Rattle.diagrams.specs.Diagrams.{Diagram}
use Rattle.diagrams.specs.Reading.{last, Follow}
use Rattle.diagrams.specs.Places.{Content, free, leaf_word, node_at}
use Rattle.histories.specs.Stores.{Entries}
use Rattle.histories.specs.Tables.{Phase, Model, StandsFor, Outnumber}
use Rattle.histories.specs.Steps.{Gains}
use Rattle.histories.proofs.Sound.{Sound}
use Rattle.places.specs.declared.places.Places.{Places}
use Rattle.places.specs.Tables.{Under}
use Rattle.sheets.specs.declared.record.Item.{Item}
use Rattle.sheets.specs.declared.record.Item.TheVariants.{Leaf, Node, End}
use Rattle.sheets.specs.Held.{Held}
use Rattle.building.specs.Work.{model}
use Rattle.reading.specs.declared.fill.NoRoom.{NoRoom}

-- What the place of a record is to hold, where `handles` has those of the records before it: a leaf's word, or a node's level and its children's handles.
abbrev pub content_of : List ℕ → Item → Content
content_of handles (Leaf word) = leaf_word word
content_of handles (Node level low high) = node_at level (slice_index handles low) (slice_index handles high)
content_of handles (End count) = free

-- Record i is an earlier one, and its handle stands on level l or deeper.
pub record Child (t : Places) (handles : List ℕ) (l i : ℕ) : Type 0 where
  pub earlier : i < length handles
  pub deep : Under t l (slice_index handles i)

-- A record that a place can hold: a leaf, or a node whose children have their places and stand deeper. An end has none.
abbrev pub Placeable : Places → List ℕ → Item → Type 0
Placeable t handles (Leaf word) = Unit {0}
Placeable t handles (Node level low high) = (level < 32) × Child t handles (level + 1) low × Child t handles (level + 1) high
Placeable t handles (End count) = ⊥

-- The records of a sheet of a layout: they stand in the bytes at the byte places of the list, and each follows those before it.
pub record Ready (K : Kind) (L : Layout) (bytes list : List ℕ) (seen : List Diagram) : Type 0 where
  pub valid : Valid L
  pub held : Held bytes list seen
  pub follow : Follow K L [] seen
  pub some : 0 < length seen
  pub few : length seen ≤ 4096

-- All records got their places, and the last one has the handle h.
pub record Filled (m n : Model) (seen : List Diagram) (h : ℕ) : Type 0 where
  pub answers : StandsFor n (last seen) h
  pub gains : Gains m n (λ d. Memᴰ d seen)

-- Record i is the first that finds the table full.
pub record Crowded (m : Model) (seen : List Diagram) (i : ℕ) : Type 0 where
  pub inside : i < length seen
  pub fits : ¬ Outnumber m (λ d. Memᴰ d (take i seen))
  pub full : Outnumber m (λ d. Memᴰ d (take (i + 1) seen))

-- What filling came to: the last record's handle, or the record that found the table full.
abbrev pub Came : Model → Model → List Diagram → Result ℕ NoRoom → Type 0
Came m n seen (Ok h) = Filled m n seen h
Came m n seen (Err full) = Crowded m seen full.number

-- The same from the places t to u, of whatever sound table they are.
abbrev pub FillsUp : Kind → Layout → List Diagram → Places → Places → Result ℕ NoRoom → Type 0
FillsUp K L seen t u r =
    (entries : Entries) (phase : Phase) → Sound K L (model L entries phase t) → Came (model L entries phase t) (model L entries phase u) seen r

-- A record that is told is one of so many.
abbrev pub Inside : ℕ → Result ℕ NoRoom → Type 0
Inside count (Ok h) = Unit {0}
Inside count (Err full) = full.number < count
