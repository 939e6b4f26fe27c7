-- The sheet of a diagram. Assumes nothing.
use Rattle.std.specs.Prelude.{ℕ, zero, suc, ◌/◌, ◌%◌, List, [], ◌∷◌, ◌++◌, length}
use Rattle.diagrams.specs.Kinds.{Kind}
use Rattle.diagrams.specs.Layouts.{type_code, Layout}
use Rattle.diagrams.specs.Diagrams.{Diagram, leaf, node, same}
use Rattle.diagrams.specs.Sizes.{among}

-- The parts of a diagram that come after those seen: once each, children before parents, low before high.
abbrev pub visited : Diagram → List Diagram → List Diagram
visited (leaf v) seen = elim (among (leaf v) seen) [ yes _ ↦ seen | no _ ↦ seen ++ (leaf v ∷ []) ]
visited (node l a b) seen = elim (among (node l a b) seen) [ yes _ ↦ seen | no _ ↦ visited b (visited a seen) ++ (node l a b ∷ []) ]

-- The number of a diagram in a list: how many stand before it.
abbrev pub number : Diagram → List Diagram → ℕ
number d [] = 0
number d (e ∷ es) = elim (same d e) [ yes _ ↦ 0 | no _ ↦ suc (number d es) ]

-- A number in two bytes, the low one first.
abbrev pub two : ℕ → List ℕ
two n = n % 256 ∷ n / 256 % 256 ∷ []

-- A number in four bytes, the low ones first.
abbrev pub four : ℕ → List ℕ
four n = two (n % 65536) ++ two (n / 65536)

-- A record: the length of its body, its kind, its body.
abbrev pub record_of : ℕ → List ℕ → List ℕ
record_of kind body = two (length body) ++ two kind ++ body

-- f at the k levels from l on.
abbrev pub by_level : ℕ → ℕ → (ℕ → ℕ) → List ℕ
by_level zero l f = []
by_level (suc k) l f = f l ∷ by_level k (suc l) f

-- The record of a diagram: a leaf's word, or a node's level and the numbers of its children among `all`.
abbrev pub record_at : List Diagram → Diagram → List ℕ
record_at all (leaf v) = record_of 2 (four v)
record_at all (node l a b) = record_of 3 (l ∷ two (number a all) ++ two (number b all))

-- The records of some diagrams among `all`, in turn.
abbrev pub records : List Diagram → List Diagram → List ℕ
records all [] = []
records all (d ∷ ds) = record_at all d ++ records all ds

-- The head record: the kind's code, the number of levels, the mark of each level, and its type.
abbrev pub header : Kind → Layout → List ℕ
header K L = record_of 1 (K.code ∷ L.size ∷ by_level L.size 0 L.mark ++ by_level L.size 0 (λ l. type_code (L.type l)))

-- The end record: how many leaves and nodes there are.
abbrev pub ender : List Diagram → List ℕ
ender all = record_of 4 (two (length all))

-- The sheet of a diagram: the head, a record for each of its parts, the end.
abbrev pub sheet : Kind → Layout → Diagram → List ℕ
sheet K L d = let all = visited d [] in header K L ++ records all all ++ ender all
