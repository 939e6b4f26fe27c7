-- What a place adds to the value that a fruit is given. Assumes nothing.
use Rattle.std.specs.Prelude.{ℕ, List, [], ◌==◌}
use Rattle.diagrams.specs.Kinds.{Kind}
use Rattle.diagrams.specs.Layouts.{Layout, bit}
use Rattle.diagrams.specs.Places.{Content, free, leaf_word, node_at}
use Rattle.layouts.specs.Turns.{chosen}

-- The places that a content adds for a fruit: a node's chosen children.
abbrev pub opened : Layout → ℕ → Content → List ℕ
opened L fruit free = []
opened L fruit (leaf_word v) = []
opened L fruit (node_at l x y) = chosen (L.type l) (bit (L.mark l) fruit == 1) x y

-- What a content adds at once: a leaf its word, anything else zero.
abbrev pub worth : Kind → Content → ℕ
worth K free = K.zero
worth K (leaf_word v) = v
worth K (node_at l x y) = K.zero
