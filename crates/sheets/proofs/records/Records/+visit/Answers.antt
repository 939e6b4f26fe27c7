-- Each way of a visit is a law of numbering. Assumes nothing.
use Rattle.std.proofs.Common.{◌≡◌, suc, ◌+◌, sym, subst, arith}
use Rattle.std.proofs.lemmas.Result.{err_from_is_err_and}
use Rattle.diagrams.specs.Reading.{nth}
use Rattle.diagrams.proofs.Numbering.{Keeps, Strays, visiting}
use Rattle.sheets.proofs.Holding.{leaf_back}
use Rattle.sheets.proofs.records.Records.+visit.Goals as goal
use Rattle.sheets.proofs.records.Records.+visit.Goals.{in-Node+in_ok-after+in_ok-after-2, in_default}

pub returns-then-i-next : goal.returns-then-i-next
returns-then-i-next t c = λ apart. visiting.numbered_already c.args.self.now c.args.i c.args.next apart c.if-i-next.true c.requires.1

pub returns-in_err-after : goal.returns-in_err-after
returns-in_err-after t c = λ apart.
    let q = err_from_is_err_and c.from_residual.result c.from_residual.ensures.1 in
    rw (q.1, q.2)
    (visiting.low_strays c.args.self.now c.args.i c.args.next c.in-Node.level c.in-Node.low c.in-Node.high _ apart c.requires.0 c.in-Node.ensures.draws (omega (arith, c.if-i-next.false))
    (c.in_err-after.ensures apart))

pub returns-in_err-after-2 : goal.returns-in_err-after-2
returns-in_err-after-2 t c = λ apart.
    let q = err_from_is_err_and c.from_residual-in_err-after-2.result c.from_residual-in_err-after-2.ensures.1 in
    let low = c.in_ok-after.ensures apart in
    rw (q.1, q.2)
    (visiting.high_strays c.args.self.now c.args.i c.args.next c.in-Node.level c.in-Node.low c.in-Node.high c.in_ok-after.after _ apart c.requires.0 c.in-Node.ensures.draws (omega (arith, c.if-i-next.false)) low
    (c.in_err-after-2.ensures apart))

pub returns-then-i-after : goal.returns-then-i-after
returns-then-i-after t c = λ apart.
    let next_is : c.match-item.after + 1 ≡ suc c.args.i = omega (arith, c.if-i-after.true) in
    subst (Keeps c.args.self.now c.args.i c.args.next) (sym next_is)
    (elim c.match-item.branch [
      | in-Node+in_ok-after+in_ok-after-2 w ↦
          let low = w.in_ok-after.ensures apart in
          let high = w.in_ok-after-2.ensures apart in
          visiting.node_next c.args.self.now c.args.i c.args.next w.in-Node.level w.in-Node.low w.in-Node.high w.in_ok-after.after w.in_ok-after-2.after
          apart c.requires.0 w.in-Node.ensures.draws w.in-Node.ensures.earlier.0 w.in-Node.ensures.earlier.1 (omega (arith, c.if-i-next.false)) low high (omega (arith, c.if-i-after.true, w.after-is))
      | in_default w ↦
          let v = leaf_back c.args.self.now (nth c.args.self.now c.args.i) c.item.result c.item.ensures.shows w.in_default.not-Node in
          visiting.leaf_next c.args.self.now c.args.i c.args.next v.0 apart c.requires.0 v.1 (omega (arith, c.if-i-after.true, w.after-is))
    ])

pub returns-else-i-after : goal.returns-else-i-after
returns-else-i-after t c = λ apart.
    elim c.match-item.branch [
      | in-Node+in_ok-after+in_ok-after-2 w ↦
          let low = w.in_ok-after.ensures apart in
          let high = w.in_ok-after-2.ensures apart in
          subst (Strays c.args.self.now c.args.i c.args.next) (sym w.after-is)
          (visiting.node_other c.args.self.now c.args.i c.args.next w.in-Node.level w.in-Node.low w.in-Node.high w.in_ok-after.after w.in_ok-after-2.after
          apart c.requires.0 w.in-Node.ensures.draws w.in-Node.ensures.earlier.0 w.in-Node.ensures.earlier.1 (omega (arith, c.if-i-next.false)) low high (omega (arith, c.if-i-after.false, w.after-is)))
      | in_default w ↦
          let v = leaf_back c.args.self.now (nth c.args.self.now c.args.i) c.item.result c.item.ensures.shows w.in_default.not-Node in
          subst (Strays c.args.self.now c.args.i c.args.next) (sym w.after-is)
          (visiting.leaf_other c.args.self.now c.args.i c.args.next v.0 apart c.requires.0 v.1 (omega (arith, c.if-i-next.false, c.if-i-after.false, w.after-is)))
    ]
