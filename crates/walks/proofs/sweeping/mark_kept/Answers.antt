use Rattle.std.proofs.Common.{◌≡◌, ℕ, ◌+◌, sym, ap, subst, subst₂, arith}
use Rattle.walks.specs.Orders.{collected}
use Rattle.walks.proofs.Lists.{cleared_zero}
use Rattle.walks.proofs.Rooting.{Rooted, root_used, rooted_none, rooted_skip, rooted_root, rooted_all}
use Rattle.walks.proofs.sweeping.mark_kept.Goals as goal
use Rattle.walks.proofs.sweeping.mark_kept.Goals.{then-is_root, else-is_root}

pub loop-place-init : goal.loop-place-init
loop-place-init c =
    let t = c.args.places.now in
    let marks = c.clear.new.list in
    let clean = cleared_zero t.capacity c.args.marks.now marks (rw c.capacity.ensures at c.clear.ensures) in
    subst (Rooted t 0 marks) (sym c.new-order.ensures) (rooted_none t marks clean)

pub loop-place-preserved : goal.loop-place-preserved
loop-place-preserved c =
    let t = c.args.places.now in
    let i = c.loop-place.place in
    let marks = c.loop-place.marks in
    let order = collected c.loop-place.order in
    let p = c.loop-place.invariant in
    elim c.if-is_root.branch [
      | then-is_root w ↦
          subst₂ (Rooted t (i + 1)) (sym w.marks-is) (sym (ap collected w.order-is))
          (rooted_root t i marks order p w.collect.new.marks (collected w.collect.new.order) (sym w.if-is_root.ensures) w.collect.ensures)
      | else-is_root w ↦
          subst₂ (Rooted t (i + 1)) (sym w.marks-is) (sym (ap collected w.order-is)) (rooted_skip t i marks order p (sym w.if-is_root.ensures))
    ]

pub returns : goal.returns
returns c =
    let t = c.args.places.now in
    let all : c.loop-place.place ≡ t.capacity = omega arith in
    rooted_all t c.loop-place.marks (collected c.loop-place.order) (subst (λ (i : ℕ). Rooted t i c.loop-place.marks (collected c.loop-place.order)) all c.loop-place.invariant)
