-- The operations of the code, and the keys of calls whose operands are handles. Assumes nothing.
use Rattle.std.specs.Prelude.{ℕ, ◌+◌, ◌*◌}
use Rattle.diagrams.specs.Tasks.{sum, difference, product, Operation as Meant}
use Rattle.histories.specs.Stores.{Key}
use Rattle.histories.specs.Steps.{operation_code}
use Rattle.building.specs.declared.operation.Operation.{Operation}
use Rattle.building.specs.declared.operation.Operation.TheVariants.{Sum, Difference, Product}

-- The operation that is meant.
abbrev pub meant : Operation → Meant
meant Sum = sum
meant Difference = difference
meant Product = product

-- The key of two handles combined.
abbrev pub combine_key : Meant → ℕ → ℕ → Key
combine_key o a b = record { operation = operation_code o; left = a; right = b }

-- The key of a handle with mark i put to c.
abbrev pub restrict_key : ℕ → ℕ → ℕ → Key
restrict_key h i c = record { operation = 3; left = h; right = 2 * i + c }
