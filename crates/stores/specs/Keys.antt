-- The keys of the code as the keys that histories speak of. Assumes nothing.
use Rattle.std.specs.Prelude.{ℕ}
use Rattle.histories.specs.Stores.{Key}
use Rattle.stores.specs.declared.Operation.{Operation}
use Rattle.stores.specs.declared.Operation.TheVariants.{Sum, Difference, Product, Restrict}
use Rattle.stores.specs.declared.Key.{Key as Asked}

-- The number of an operation.
abbrev pub number : Operation → ℕ
number Sum = 0
number Difference = 1
number Product = 2
number Restrict = 3

-- What a key of the code means: the number of its operation, its left and its right.
abbrev pub key_of : Asked → Key
key_of k = record { operation = number k.operation; left = k.left; right = k.right }
