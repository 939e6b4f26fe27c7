-- The number that stands for each kind of record in its frame. Assumes nothing.
use Rattle.std.specs.Prelude.{◌≡◌, ℕ, Some, None, Option}
use Rattle.sheets.specs.declared.kind.RecordKind.{RecordKind}
use Rattle.sheets.specs.declared.kind.RecordKind.TheVariants.{Head, Leaf, Node, End}

-- The number of a kind of record.
abbrev pub code : RecordKind → ℕ
code Head = 1
code Leaf = 2
code Node = 3
code End = 4

-- The kind that a number stands for, if it stands for one.
abbrev pub Coded : ℕ → Option RecordKind → Type 0
Coded n (Some kind) = code kind ≡ n
Coded n None = (kind : RecordKind) → ¬ (code kind ≡ n)
