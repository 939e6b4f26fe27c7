-- How far a sheet is read, and what its check tells. Assumes nothing.
use Rattle.std.specs.Prelude.{◌≡◌, ℕ, ◌+◌, ◌<◌, ◌≤◌, List, [], ◌++◌, length, take, drop, Some, None, Ok, Err, Option, Result, slice_index}
use Rattle.diagrams.specs.Kinds.{Kind}
use Rattle.diagrams.specs.Layouts.{Layout}
use Rattle.diagrams.specs.Diagrams.{Lawful, Diagram}
use Rattle.diagrams.specs.Sheets.{visited, record_at, records, header, ender}
use Rattle.diagrams.specs.Reading.{drawn, bad, fine, unless, nth, last, Follow, head_rules, begun_with, read_sheet}
use Rattle.refusals.specs.declared.fault.SheetFault.{SheetFault}
use Rattle.sheets.specs.declared.head.Expected.{Expected}
use Rattle.sheets.specs.declared.scan.Progress.{Progress}
use Rattle.sheets.specs.Faults.{Tells, failed}
use Rattle.sheets.specs.Held.{Held}
use Rattle.sheets.specs.Judged.{Types}

module _ (K : Kind) (L : Layout) where
  -- What is expected of a sheet is what a kind and a layout have.
  pub record Suits (head types : List ℕ) (limit : ℕ) : Type 0 where
    pub lawful : Lawful K L
    pub head_is : head ≡ header K L
    pub types_are : Types L types
    pub small : limit < 65536

  -- The same, of what a table asks.
  abbrev pub Asks : Expected → Type 0
  Asks expected = Suits expected.head.now expected.types.now expected.limit

  -- The bytes begin with the head record.
  abbrev pub Begun : List ℕ → Type 0
  Begun bytes = bytes ≡ header K L ++ drop (length (header K L)) bytes

  -- What the check of the head tells.
  abbrev pub Headed : ℕ → List ℕ → {A : Type 0} → Result A SheetFault → Type 0
  Headed limit bytes (Ok _) = Begun bytes
  Headed limit bytes (Err f) = Tells (unless bad (head_rules K L limit bytes) fine) 0 f

module _ (K : Kind) (L : Layout) (limit : ℕ) (bytes : List ℕ) where
  -- The head and `count` proper records are read, up to a byte place; each stands at its own, which the list has.
  pub record At (place count : ℕ) (list : List ℕ) : Type 0 where
    pub seen : List Diagram
    pub follow : Follow K L [] seen
    pub fits : length seen ≤ limit
    pub counted : count ≡ length seen
    pub spelled : bytes ≡ begun_with K L limit seen ++ drop place bytes
    pub reached : place ≡ length (begun_with K L limit seen)
    pub stands : (i : ℕ) → i < length seen → (more : List ℕ) × (drop (slice_index list i) bytes ≡ record_at seen (nth seen i) ++ more)
    pub placed : (i : ℕ) → i < length seen → slice_index list i ≡ length (header K L ++ records seen (take i seen))

  -- And the end comes there.
  pub record Ends (place count : ℕ) (list : List ℕ) : Type 0 where
    pub at : At place count list
    pub some : 0 < count
    pub ender_there : drop place bytes ≡ ender at.seen ++ drop (place + 6) bytes

  -- The sheet is read to its end by the rules of a lawful kind and layout, and the list was long enough.
  pub record Complete (place count : ℕ) (list : List ℕ) : Type 0 where
    pub lawful : Lawful K L
    pub small : limit < 65536
    pub room : limit ≤ length list
    pub ends : Ends place count list

  -- What one more record comes to: a step onward, the end, or the first fault of the sheet.
  abbrev pub Stepped : ℕ → ℕ → List ℕ → Result (Option Progress) SheetFault → Type 0
  Stepped place count list (Ok (Some next)) = (next.count ≡ count + 1) × At next.place next.count list
  Stepped place count list (Ok None) = Ends place count list
  Stepped place count list (Err f) = read_sheet K L limit bytes ≡ failed f

  -- What all records come to: where the end stands, or the first fault of the sheet.
  abbrev pub Scanned : List ℕ → Result Progress SheetFault → Type 0
  Scanned list (Ok end) = Ends end.place end.count list
  Scanned list (Err f) = read_sheet K L limit bytes ≡ failed f

  -- The bytes are the sheet of the last of the diagrams `seen`, and the list has the byte place of each record.
  pub record Accepted (list : List ℕ) (count : ℕ) : Type 0 where
    pub seen : List Diagram
    pub counted : count ≡ length seen
    pub fits : count ≤ limit
    pub comes : read_sheet K L limit bytes ≡ drawn (last seen)
    pub ordered : visited (last seen) [] ≡ seen
    pub placed : (i : ℕ) → i < length seen → slice_index list i ≡ length (header K L ++ records seen (take i seen))
    pub held : Held bytes list seen

  -- What the check of a sheet tells.
  abbrev pub Checked : List ℕ → Result ℕ SheetFault → Type 0
  Checked list (Ok count) = Accepted list count
  Checked list (Err f) = read_sheet K L limit bytes ≡ failed f
