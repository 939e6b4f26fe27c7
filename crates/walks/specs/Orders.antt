-- The places that a walk came to, in their order. Assumes nothing.
use Rattle.std.specs.Prelude.{ℕ, List, take}
use Rattle.walks.specs.declared.order.Order.{Order}

-- The places in their order, children before parents.
abbrev pub collected : Order → List ℕ
collected o = take o.count o.handles
