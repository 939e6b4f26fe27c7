use Rattle.walks.specs.Orders.{collected}
use Rattle.walks.proofs.Rooting.{Rooted}
use Rattle.walks.proofs.sweeping.mark_kept.Given as goal

abbrev pub invariant-loop-place : goal.invariant-loop-place
invariant-loop-place l = Rooted l.places l.place l.marks (collected l.order)
