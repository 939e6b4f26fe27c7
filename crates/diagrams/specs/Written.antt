-- The theorems on sheets. Assumes nothing.
use Rattle.std.specs.Prelude.{◌≡◌, ℕ, ◌+◌, ◌*◌, ◌^◌, ◌<◌, ◌≤◌, ◌↔◌, List, [], ◌∷◌, ◌++◌, length}
use mathlib.Core.List.{Memᴰ}
use Rattle.std.specs.List.{AllByRecursion}
use Rattle.diagrams.specs.Kinds.{Kind}
use Rattle.diagrams.specs.Layouts.{Layout}
use Rattle.diagrams.specs.Diagrams.{Lawful, Diagram, node, rule, Good}
use Rattle.diagrams.specs.Sizes.{among, Within, extent}
use Rattle.diagrams.specs.Sheets.{visited, sheet}
use Rattle.diagrams.specs.Reading.{drawn, fault, last, Follow, read_sheet, Faulty}

-- Writing, then reading, gives the diagram back.
abbrev pub Returns : Type 0
Returns = (K : Kind) (L : Layout) (limit : ℕ) → Lawful K L → limit < 65536 → (d : Diagram) → Good K L 0 d
    → length (visited d []) ≤ limit → read_sheet K L limit (sheet K L d) ≡ drawn d

-- Reading accepts the sheets of good diagrams that have room, and no other bytes.
abbrev pub Accepts : Type 0
Accepts = (K : Kind) (L : Layout) (limit : ℕ) → Lawful K L → limit < 65536 → (bytes : List ℕ) → AllByRecursion (λ b. b < 256) bytes → (d : Diagram)
    → (read_sheet K L limit bytes ≡ drawn d) ↔ ((bytes ≡ sheet K L d) × Good K L 0 d × (length (visited d []) ≤ limit))

-- Sheets are equal where their diagrams are, and where these grade every fruit alike.
abbrev pub Faithful : Type 0
Faithful = (K : Kind) (L : Layout) → Lawful K L → (a b : Diagram) → Good K L 0 a → Good K L 0 b
    → length (visited a []) < 65536 → length (visited b []) < 65536
    → (sheet K L a ≡ sheet K L b) ↔ ((fruit : ℕ) → fruit < 2 ^ L.size → rule K L a fruit ≡ rule K L b fruit)

-- Each fault that reading tells is the first, and it tells it.
abbrev pub Faults : Type 0
Faults = (K : Kind) (L : Layout) (limit : ℕ) → Lawful K L → limit < 65536 → (bytes : List ℕ) → AllByRecursion (λ b. b < 256) bytes → (k place : ℕ)
    → (read_sheet K L limit bytes ≡ fault k place) ↔ Faulty K L limit bytes k place

-- What is written of a diagram: all that is reached from it and no more, once each, children before parents, the diagram itself last.
abbrev pub Ordered : Type 0
Ordered = (K : Kind) (L : Layout) (d : Diagram) → Good K L 0 d
    → Follow K L [] (visited d []) × ((x : Diagram) → Memᴰ x (visited d []) ↔ Within x d) × (last (visited d []) ≡ d)

-- Twelve bytes and two for each level, eight for each leaf or node, and one more for each node.
abbrev pub Measured : Type 0
Measured = (K : Kind) (L : Layout) (d : Diagram) → Good K L 0 d → length (sheet K L d) ≡ 12 + 2 * L.size + 8 * length (visited d []) + extent d

-- All of them are bytes.
abbrev pub Spelled : Type 0
Spelled = (K : Kind) (L : Layout) → Lawful K L → (d : Diagram) → Good K L 0 d → AllByRecursion (λ b. b < 256) (sheet K L d)

-- Those of a list that are not among those seen, in order.
abbrev pub unseen : List Diagram → List Diagram → List Diagram
unseen seen [] = []
unseen seen (d ∷ ds) = elim (among d seen) [ yes _ ↦ unseen seen ds | no _ ↦ d ∷ unseen seen ds ]

-- Low before high: the records of a node are those of its low child, those of its high child but for what came before, each as the child's own
-- sheet has them, then the node.
abbrev pub LowFirst : Type 0
LowFirst = (l : ℕ) (a b : Diagram) → visited (node l a b) [] ≡ visited a [] ++ unseen (visited a []) (visited b []) ++ (node l a b ∷ [])
