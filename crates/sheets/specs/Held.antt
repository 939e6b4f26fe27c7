-- Records that stand in the bytes of a sheet at the byte places of a list. Assumes nothing.
use Rattle.std.specs.Prelude.{◌≡◌, ℕ, ◌^◌, ◌<◌, ◌≤◌, List, [], ◌∷◌, ◌++◌, length, take, drop, slice_index}
use Rattle.diagrams.specs.Diagrams.{Diagram, leaf, node}
use Rattle.diagrams.specs.Sizes.{Distinct}
use Rattle.diagrams.specs.Sheets.{number, record_at}
use Rattle.diagrams.specs.Reading.{kind_of, nth, Children}
use Rattle.sheets.specs.Frames.{item_of}
use Rattle.sheets.specs.declared.record.Item.{Item}
use Rattle.sheets.specs.declared.record.Item.TheVariants.{Leaf, Node, End}

-- The first entries of the list are the byte places of records, which stand for the diagrams of `seen`: different ones, children before parents.
pub record Held (bytes list : List ℕ) (seen : List Diagram) : Type 0 where
  pub stands : (i : ℕ) → i < length seen → (more : List ℕ) × (drop (slice_index list i) bytes ≡ record_at seen (nth seen i) ++ more)
  pub words : (i v : ℕ) → i < length seen → nth seen i ≡ leaf v → v < 2 ^ 32
  pub apart : Distinct seen
  pub earlier : (i : ℕ) → i < length seen → Children (nth seen i) (take i seen)
  pub few : length seen < 65536
  pub room : length seen ≤ length list

-- And the list has no other entries.
pub record Listed (bytes list : List ℕ) (seen : List Diagram) : Type 0 where
  pub held : Held bytes list seen
  pub whole : length list ≡ length seen

-- What the record of a diagram holds: a leaf's word, or a node's level and children by number.
abbrev pub shown : List Diagram → Diagram → Item
shown seen (leaf v) = Leaf v
shown seen (node l a b) = Node l (number a seen) (number b seen)

-- The diagram that a leaf or node stands for; an end stands for none.
abbrev pub diagram_of : List Diagram → Item → Diagram
diagram_of seen (Leaf w) = leaf w
diagram_of seen (Node l x y) = node l (nth seen x) (nth seen y)
diagram_of seen (End n) = leaf 0

-- The diagrams of the records at some byte places, in turn, after those of `seen`.
unfoldable pub drawn_after : List ℕ → List Diagram → List ℕ → List Diagram
drawn_after bytes seen [] = seen
drawn_after bytes seen (place ∷ places) =
    let record_there : List ℕ = drop place bytes in
    drawn_after bytes (seen ++ (diagram_of seen (item_of (kind_of record_there) record_there) ∷ [])) places

-- The diagrams of the records at the byte places of a list.
abbrev pub drawn : List ℕ → List ℕ → List Diagram
drawn bytes list = drawn_after bytes [] list

-- A leaf, or a node whose children are among the first `count` records.
abbrev pub Known : ℕ → Item → Type 0
Known count (Leaf w) = Unit {0}
Known count (Node l x y) = (x < count) × (y < count)
Known count (End n) = ⊥
