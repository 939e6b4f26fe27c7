-- The head of a sheet as the code has it. Assumes nothing.
use Rattle.std.specs.Prelude.{ℕ, List, ◌∷◌, ◌++◌, take}
use Rattle.diagrams.specs.Kinds.{Kind}
use Rattle.diagrams.specs.Layouts.{type_code, Layout}
use Rattle.diagrams.specs.Sheets.{by_level}
use Rattle.writing.specs.declared.head.Head.{Head}

-- The bytes of a head.
abbrev pub head_bytes : Head → List ℕ
head_bytes h = take h.count h.body

-- What the head record holds: the kind's code, the number of levels, the mark of each level, and its type.
abbrev pub head_body : Kind → Layout → List ℕ
head_body K L = K.code ∷ L.size ∷ by_level L.size 0 L.mark ++ by_level L.size 0 (λ l. type_code (L.type l))
