-- Each shortcut by handle is one by diagram. Assumes nothing.
use Rattle.std.proofs.Common.{◌≡◌, arith}
use Rattle.building.specs.declared.operation.Operation.TheVariants.{Product}
use Rattle.building.proofs.Shortening.{sum_left, sum_rest, difference_right, difference_same, difference_rest, product_left, one_left, product_rest}
use Rattle.building.proofs.quick.shorten.Goals.{in_default-via-in-Sum+in_default+in_default, in_default-via-in-Difference-default-default+else-x-y, in_default-via-in-Product+in_default+else-this-lt2+in_default-this-5}
use Rattle.building.proofs.quick.shorten.Goals as goal

pub returns-in-Sum-eq0-default : goal.returns-in-Sum-eq0-default
returns-in-Sum-eq0-default g c =
    rw c.in-Sum-eq0-default.is-0 (sum_left _ _ _ _ c.requires.right c.in-Sum-eq0-default.is-1)

pub returns-in-Difference-default-eq0 : goal.returns-in-Difference-default-eq0
returns-in-Difference-default-eq0 g c =
    rw c.in-Difference-default-eq0.is-0 (difference_right _ _ _ _ c.requires.left c.in-Difference-default-eq0.is-2)

pub returns-in-Difference-default-default : goal.returns-in-Difference-default-default
returns-in-Difference-default-default g c =
    rw c.in-Difference-default-default.is-0 (difference_same _ _ _ _ c.in-Difference-default-default.is-2.1 c.if-x-y.true)

pub returns-in-Product-eq1-default : goal.returns-in-Product-eq1-default
returns-in-Product-eq1-default g c =
    rw c.in-Product-eq1-default.is-0 (one_left _ _ _ _ c.requires.right c.in-Product-eq1-default.is-1.1 c.in-Product-eq1-default.is-2.1 (omega arith))

pub returns-in-Product-eq0-default : goal.returns-in-Product-eq0-default
returns-in-Product-eq0-default g c =
    rw c.in-Product-eq0-default.is-0 (product_left _ _ _ _ c.in-Product-eq0-default.is-1)

pub returns-in_default : goal.returns-in_default
returns-in_default g c = elim c.in_default.branch [
  | in_default-via-in-Sum+in_default+in_default w ↦
      rw w.in_default.is-0 (sum_rest _ _ _ _ _ w.in_default.is-1.1 w.in_default.is-2.1 (rw w.in_default.is-0 at c.leaves.ensures))
  | in_default-via-in-Difference-default-default+else-x-y w ↦
      rw w.in-Difference-default-default.is-0 (difference_rest _ _ _ _ _ w.in-Difference-default-default.is-2.1 w.if-x-y.false (rw w.in-Difference-default-default.is-0 at c.leaves.ensures))
  | in_default-via-in-Product+in_default+else-this-lt2+in_default-this-5 w ↦
      let e : c.args.operation ≡ Product = cc in
      rw e (product_rest _ _ _ _ _ (omega arith) (omega arith) (omega arith) (omega arith) (rw e at c.leaves.ensures))
]
