-- Which of its children a node adds. Assumes nothing.
use Rattle.std.specs.Prelude.{ℕ, Bool, true, false, List, [], ◌∷◌}
use Rattle.diagrams.specs.Layouts.{Decomposition, shannon, positive, negative}
use Rattle.layouts.specs.declared.turn.Turn.{Turn}
use Rattle.layouts.specs.declared.turn.Turn.TheVariants.{Low, High, Both}

-- The children that a turn names, low before high.
abbrev pub children : Turn → ℕ → ℕ → List ℕ
children Low low high = low ∷ []
children High low high = high ∷ []
children Both low high = low ∷ high ∷ []

-- The children whose values a node adds: Shannon low without its mark and high with it, positive Davio low, and high with its mark,
-- negative Davio low, and high without it.
abbrev pub chosen : Decomposition → Bool → ℕ → ℕ → List ℕ
chosen shannon false low high = low ∷ []
chosen shannon true low high = high ∷ []
chosen positive false low high = low ∷ []
chosen positive true low high = low ∷ high ∷ []
chosen negative false low high = low ∷ high ∷ []
chosen negative true low high = low ∷ []
