-- The places that are still to be added, as frames keep them. Assumes nothing.
use Rattle.std.specs.Prelude.{ℕ, List, reverse}
use Rattle.arrayvec.specs.ArrayVec.{ArrayVec}

-- The places that are still to be added, the next one first.
abbrev pub pending : ArrayVec ℕ → List ℕ
pending f = reverse f.items
