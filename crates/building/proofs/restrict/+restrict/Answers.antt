use Rattle.std.proofs.Common.{ℕ, ◌<◌, sym, ◌∙◌, subst, arith}
use Rattle.layouts.specs.declared.turn.Turn.TheVariants.{Low, High, Both}
use Rattle.places.specs.declared.place.Content.TheVariants.{Node}
use Rattle.places.proofs.Holding.{seen_one}
use Rattle.places.proofs.Extending.{node_under, under_still, under_higher}
use Rattle.building.proofs.Restricting.{node_depth, constant_small, leaf_restricted, deeper_restricted, at_node, sum_restricted, hit_restricted, above, low_stops, high_stops, both_restricted}
use Rattle.building.proofs.restrict.+restrict.Goals as goal

pub returns-in_default : goal.returns-in_default
returns-in_default g t c =
    leaf_restricted _ _ _ _ _ _ _ c.requires.mark (constant_small c.args.constant) c.requires.used
    (λ l x y e. c.in_default.not-Node l x y (seen_one c.content.result (Node l x y) (c.content.ensures ∙ e)))

pub returns-then-level-target : goal.returns-then-level-target
returns-then-level-target g t c =
    deeper_restricted _ _ _ _ _ _ _ c.requires.mark (constant_small c.args.constant) _ _ _ c.in-Node.ensures
    (subst (λ (n : ℕ). n < c.in-Node.level) c.level-target.ensures c.if-level-target.true)

pub returns-in-Low : goal.returns-in-Low
returns-in-Low g t c =
    at_node _ _ _ _ _ _ c.requires.mark _ _ _ _ c.in-Node.ensures (c.if-level-target-2.true ∙ c.level-target.ensures) Low _ c.in-Low.ensures c.form.ensures

pub returns-in-High : goal.returns-in-High
returns-in-High g t c =
    at_node _ _ _ _ _ _ c.requires.mark _ _ _ _ c.in-Node.ensures (c.if-level-target-2.true ∙ c.level-target.ensures) High _ c.in-High.ensures c.form.ensures

pub returns-in-Both : goal.returns-in-Both
returns-in-Both g t c =
    sum_restricted c.requires.mark
    (at_node g.K.Value.kind _ _ _ _ (g.S.Store.entries c.args.store.now) c.requires.mark _ _ _ _ c.in-Node.ensures
    (c.if-level-target-2.true ∙ c.level-target.ensures) Both _ c.in-Both.ensures c.form.ensures)
    c.combine.ensures

pub returns-in-Some : goal.returns-in-Some
returns-in-Some g t c =
    hit_restricted _ _ _ _ _ _ _ c.requires.mark (constant_small c.args.constant) c.in-Node.ensures c.stored_under-key.ensures c.ask.ensures
    c.in-Some.ensures

pub returns-in_err-x : goal.returns-in_err-x
returns-in_err-x g t c =
    rw c.from_residual.ensures
    (low_stops c.requires.mark (constant_small c.args.constant)
    (above c.in-Node.ensures c.level-target.ensures c.if-level-target.false c.if-level-target-2.false c.stored_under-key.ensures c.ask.ensures c.in_default-trusted.ensures) c.in_err-x.ensures)

pub restrict-requires-2 : goal.restrict-requires-2
restrict-requires-2 g t c κs within =
    let n = node_under c.args.places.now c.args.h _ _ _ (sym c.in-Node.ensures) in
    let x = under_still c.in_ok-x.ensures.kept _ _ n.2 in
    (omega (arith, n.0, node_depth c.args.places.now c.args.h _ _ _ c.in-Node.ensures, x.level, c.decreases), (within.0, (within.1, (x.used, c.requires.mark))))

pub returns-in_err-y : goal.returns-in_err-y
returns-in_err-y g t c =
    rw c.from_residual-in_err-y.ensures
    (high_stops c.requires.mark (constant_small c.args.constant)
    (above c.in-Node.ensures c.level-target.ensures c.if-level-target.false c.if-level-target-2.false c.stored_under-key.ensures c.ask.ensures c.in_default-trusted.ensures)
    c.in_ok-x.ensures c.in_err-y.ensures)

pub finish-requires : goal.finish-requires
finish-requires g t c =
    let n = node_under c.args.places.now c.args.h _ _ _ (sym c.in-Node.ensures) in
    let w1 = c.in_ok-x.ensures in
    let w2 = c.in_ok-y.ensures in
    record {
      within = n.0;
      left = under_still w2.kept _ _ (under_higher n.1.level w1.inside);
      right = under_higher (under_still w1.kept _ _ n.2).level w2.inside;
    }

pub returns : goal.returns
returns g t c =
    both_restricted c.requires.mark (constant_small c.args.constant)
    (above c.in-Node.ensures c.level-target.ensures c.if-level-target.false c.if-level-target-2.false c.stored_under-key.ensures c.ask.ensures c.in_default-trusted.ensures)
    c.in_ok-x.ensures c.in_ok-y.ensures c.finish.ensures.joined _ c.stored_under-key.ensures c.finish.ensures.closed
