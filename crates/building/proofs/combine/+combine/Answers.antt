use Rattle.std.proofs.Common.{arith}
use Rattle.layouts.specs.View.{view}
use Rattle.building.specs.Operations.{meant}
use Rattle.building.proofs.Beginning.{value_combined}
use Rattle.building.proofs.Splitting.{basis, stop1, high_stop, both, stop2, stop3, stop4, stop5, stop6, all_six, crosses_by, plain_below, below3, below4, below5, below6, crossed_below}
use Rattle.building.proofs.combine.+combine.Goals as goal

pub returns-in-Handle : goal.returns-in-Handle
returns-in-Handle g t c = let known = rw c.in-Handle.is at c.in-Some.ensures in known (view c.args.layout.now)

pub returns-in-Value : goal.returns-in-Value
returns-in-Value g t c = value_combined (rw c.in-Value.is at c.in-Some.ensures) c.leaf.ensures

pub returns-in_err-low : goal.returns-in_err-low
returns-in_err-low g t c =
    rw c.from_residual.ensures
    (stop1 (basis c.higher-level.ensures c.in_default.ensures c.parts-la.ensures c.parts-lb.ensures) c.in_err-low.ensures)

pub returns-in_err-lh : goal.returns-in_err-lh
returns-in_err-lh g t c =
    rw c.from_residual-in_err-lh.ensures
    (stop2 (basis c.higher-level.ensures c.in_default.ensures c.parts-la.ensures c.parts-lb.ensures) c.in_ok-low.ensures (crosses_by (meant c.args.operation) c.if-crosses.ensures c.form.ensures) c.in_err-lh.ensures)

pub combine-requires-then-crosses-2 : goal.combine-requires-then-crosses-2
combine-requires-then-crosses-2 g t c κs within =
    let p = basis c.higher-level.ensures c.in_default.ensures c.parts-la.ensures c.parts-lb.ensures in
    let q = below3 p c.in_ok-low.ensures c.in_ok-lh.ensures in
    (omega (arith, p.level, p.small, q.0.level, q.1.level, c.decreases), (within.0, (within.1, (q.0.used, q.1.used))))

pub returns-in_err-hl : goal.returns-in_err-hl
returns-in_err-hl g t c =
    rw c.from_residual-in_err-hl.ensures
    (stop3 (basis c.higher-level.ensures c.in_default.ensures c.parts-la.ensures c.parts-lb.ensures) c.in_ok-low.ensures (crosses_by (meant c.args.operation) c.if-crosses.ensures c.form.ensures) c.in_ok-lh.ensures c.in_err-hl.ensures)

pub combine-requires-then-crosses-3 : goal.combine-requires-then-crosses-3
combine-requires-then-crosses-3 g t c κs within =
    let p = basis c.higher-level.ensures c.in_default.ensures c.parts-la.ensures c.parts-lb.ensures in
    let q = below4 p c.in_ok-low.ensures c.in_ok-lh.ensures c.in_ok-hl.ensures in
    (omega (arith, p.level, p.small, q.0.level, q.1.level, c.decreases), (within.0, (within.1, (q.0.used, q.1.used))))

pub returns-in_err-mixed : goal.returns-in_err-mixed
returns-in_err-mixed g t c =
    rw c.from_residual-in_err-mixed.ensures
    (stop4 (basis c.higher-level.ensures c.in_default.ensures c.parts-la.ensures c.parts-lb.ensures) c.in_ok-low.ensures (crosses_by (meant c.args.operation) c.if-crosses.ensures c.form.ensures) c.in_ok-lh.ensures c.in_ok-hl.ensures c.in_err-mixed.ensures)

pub combine-requires-then-crosses-4 : goal.combine-requires-then-crosses-4
combine-requires-then-crosses-4 g t c κs within =
    let p = basis c.higher-level.ensures c.in_default.ensures c.parts-la.ensures c.parts-lb.ensures in
    let q = below5 p c.in_ok-low.ensures c.in_ok-lh.ensures c.in_ok-hl.ensures c.in_ok-mixed.ensures in
    (omega (arith, p.level, p.small, q.0.level, q.1.level, c.decreases), (within.0, (within.1, (q.0.used, q.1.used))))

pub returns-in_err-hh : goal.returns-in_err-hh
returns-in_err-hh g t c =
    rw c.from_residual-in_err-hh.ensures
    (stop5 (basis c.higher-level.ensures c.in_default.ensures c.parts-la.ensures c.parts-lb.ensures) c.in_ok-low.ensures (crosses_by (meant c.args.operation) c.if-crosses.ensures c.form.ensures) c.in_ok-lh.ensures c.in_ok-hl.ensures c.in_ok-mixed.ensures c.in_err-hh.ensures)

pub combine-requires-then-crosses-5 : goal.combine-requires-then-crosses-5
combine-requires-then-crosses-5 g t c κs within =
    let p = basis c.higher-level.ensures c.in_default.ensures c.parts-la.ensures c.parts-lb.ensures in
    let q = below6 p c.in_ok-low.ensures c.in_ok-lh.ensures c.in_ok-hl.ensures c.in_ok-mixed.ensures c.in_ok-hh.ensures in
    (omega (arith, p.level, p.small, q.0.level, q.1.level, c.decreases), (within.0, (within.1, (q.0.used, q.1.used))))

pub returns-in_err-high : goal.returns-in_err-high
returns-in_err-high g t c =
    rw c.from_residual-in_err-high.ensures
    (stop6 (basis c.higher-level.ensures c.in_default.ensures c.parts-la.ensures c.parts-lb.ensures) c.in_ok-low.ensures (crosses_by (meant c.args.operation) c.if-crosses.ensures c.form.ensures) c.in_ok-lh.ensures c.in_ok-hl.ensures c.in_ok-mixed.ensures c.in_ok-hh.ensures c.in_err-high.ensures)

pub finish-requires : goal.finish-requires
finish-requires g t c =
    let p = basis c.higher-level.ensures c.in_default.ensures c.parts-la.ensures c.parts-lb.ensures in
    let q = crossed_below p c.in_ok-low.ensures c.in_ok-lh.ensures c.in_ok-hl.ensures c.in_ok-mixed.ensures c.in_ok-hh.ensures c.in_ok-high.ensures in
    record { within = p.small; left = q.0; right = q.1 }

pub returns-then-crosses : goal.returns-then-crosses
returns-then-crosses g t c =
    all_six (basis c.higher-level.ensures c.in_default.ensures c.parts-la.ensures c.parts-lb.ensures) c.in_ok-low.ensures (crosses_by (meant c.args.operation) c.if-crosses.ensures c.form.ensures) c.in_ok-lh.ensures c.in_ok-hl.ensures c.in_ok-mixed.ensures c.in_ok-hh.ensures c.in_ok-high.ensures
    c.finish.ensures.joined _ c.key-key.ensures c.finish.ensures.closed

pub returns-in_err-high-2 : goal.returns-in_err-high-2
returns-in_err-high-2 g t c =
    rw c.from_residual-in_err-high-2.ensures
    (high_stop (basis c.higher-level.ensures c.in_default.ensures c.parts-la.ensures c.parts-lb.ensures) c.in_ok-low.ensures (crosses_by (meant c.args.operation) c.if-crosses.ensures c.form.ensures) c.in_err-high-2.ensures)

pub finish-requires-2 : goal.finish-requires-2
finish-requires-2 g t c =
    let p = basis c.higher-level.ensures c.in_default.ensures c.parts-la.ensures c.parts-lb.ensures in
    let q = plain_below p c.in_ok-low.ensures c.in_ok-high-2.ensures in
    record { within = p.small; left = q.0; right = q.1 }

pub returns : goal.returns
returns g t c =
    both (basis c.higher-level.ensures c.in_default.ensures c.parts-la.ensures c.parts-lb.ensures) c.in_ok-low.ensures (crosses_by (meant c.args.operation) c.if-crosses.ensures c.form.ensures) c.in_ok-high-2.ensures
    c.finish-2.ensures.joined _ c.key-key.ensures c.finish-2.ensures.closed
