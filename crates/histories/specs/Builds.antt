-- The building calls as they are asked for, their operands by handle. Assumes nothing.
use Rattle.std.specs.Prelude.{ℕ}
use Rattle.diagrams.specs.Tasks.{Operation}

-- A word's leaf; a mark; two handles combined; a handle with a mark put to a constant.
pub data Build : Type 0 where
  constant mark : ℕ → Build
  combine : Operation → ℕ → ℕ → Build
  restrict : ℕ → ℕ → ℕ → Build
