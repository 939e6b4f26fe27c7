-- A record by its bytes: its frame, and what it holds. Assumes nothing.
use Rattle.std.specs.Prelude.{◌≡◌, ℕ, true, false, List, take, drop, Ok, Err, Result, slice_index}
use Rattle.diagrams.specs.Reading.{bad, fine, unless, two_at, four_at, stated, kind_of, cut, by_kind, frame_rules}
use Rattle.refusals.specs.declared.fault.ByteFault.{ByteFault}
use Rattle.refusals.specs.declared.fault.SheetFault.{SheetFault}
use Rattle.sheets.specs.declared.frame.Frame.{Frame}
use Rattle.sheets.specs.declared.record.Item.{Item}
use Rattle.sheets.specs.declared.record.Item.TheVariants.{Leaf, Node, End}
use Rattle.sheets.specs.Codes.{Coded}
use Rattle.sheets.specs.Faults.{Tells}

-- A frame that the bytes begin with: a whole record, the kind that its number stands for, and its body.
pub record Opened (bytes : List ℕ) (f : Frame) : Type 0 where
  pub whole : cut bytes ≡ false
  pub kind_is : Coded (kind_of bytes) f.kind
  pub body_is : f.body.now ≡ take (stated bytes) (drop 4 bytes)

-- The frame at the front of the bytes, unless the record is missing or cut short.
abbrev pub Framing : ℕ → List ℕ → Result Frame ByteFault → Type 0
Framing place bytes (Ok f) = Opened bytes f
Framing place bytes (Err f) = (cut bytes ≡ true) × (f.place ≡ place)

-- What the record of a kind at the front of the bytes holds.
abbrev pub item_of : ℕ → List ℕ → Item
item_of kind bytes = by_kind kind (Leaf (four_at 4 bytes)) (Node (slice_index bytes 4) (two_at 5 bytes) (two_at 7 bytes)) (End (two_at 4 bytes))

-- The same, where the body alone is given.
abbrev pub item_in : ℕ → List ℕ → Item
item_in kind body = by_kind kind (Leaf (four_at 0 body)) (Node (slice_index body 0) (two_at 1 body) (two_at 3 body)) (End (two_at 0 body))

-- The record at the front of the bytes, after so many leaves and nodes: what it holds, or the first of the rules of frames that it breaks.
abbrev pub Framed : ℕ → ℕ → List ℕ → Result Item SheetFault → Type 0
Framed count place bytes (Ok item) = (unless bad (frame_rules count bytes) fine ≡ fine) × (item ≡ item_of (kind_of bytes) bytes)
Framed count place bytes (Err f) = Tells (unless bad (frame_rules count bytes) fine) place f
