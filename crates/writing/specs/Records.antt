-- The records of places, where marks number the places. Assumes nothing.
use Rattle.std.specs.Prelude.{ℕ, ◌-◌, ◌<◌, ◌≤◌, List, [], ◌∷◌, ◌++◌, slice_index, slice_index_or}
use Rattle.diagrams.specs.Diagrams.{Diagram}
use Rattle.diagrams.specs.Sheets.{visited, two, four, record_of, records, ender}
use Rattle.diagrams.specs.Places.{Content, free, leaf_word, node_at}

-- A place has a mark, which is its number and one. The number fits two bytes.
pub record Numbered (marks : List ℕ) (h : ℕ) : Type 0 where
  pub some : 0 < slice_index marks h
  pub few : slice_index_or marks h 0 ≤ 65536

-- The children of a content have numbers.
abbrev pub Ready : List ℕ → Content → Type 0
Ready marks free = Unit {0}
Ready marks (leaf_word v) = Unit {0}
Ready marks (node_at l x y) = Numbered marks x × Numbered marks y

-- The record of a content: a leaf's word, or a node's level and the numbers of its children. A free place has none.
abbrev pub entry : List ℕ → Content → List ℕ
entry marks free = []
entry marks (leaf_word v) = record_of 2 (four v)
entry marks (node_at l x y) = record_of 3 (l ∷ two (slice_index marks x - 1) ++ two (slice_index marks y - 1))

-- The records of what some places hold, in turn.
abbrev pub entries : (ℕ → Content) → List ℕ → List ℕ → List ℕ
entries at marks [] = []
entries at marks (h ∷ hs) = entry marks (at h) ++ entries at marks hs

-- The records between the head and the end of a diagram's sheet.
abbrev pub body : Diagram → List ℕ
body d = records (visited d []) (visited d [])

-- The sheet of a diagram under a head that holds those bytes.
abbrev pub under_head : List ℕ → Diagram → List ℕ
under_head head d = record_of 1 head ++ body d ++ ender (visited d [])
