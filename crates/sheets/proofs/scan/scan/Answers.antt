-- Step by step onward from the head. Assumes nothing.
use Rattle.std.proofs.Common.{length, sym, refl, ap, subst}
use Rattle.std.proofs.lemmas.Result.{err_from_is_err_and}
use Rattle.sheets.specs.Scanned.{At}
use Rattle.sheets.proofs.Scanning.{start}
use Rattle.sheets.proofs.scan.scan.Goals as goal

pub loop-next-init : goal.loop-next-init
loop-next-init g c = (
  λ L suits begun.
      subst (λ n. At g.V.Value.kind L c.args.expected.limit c.args.bytes.now n 0 c.args.list.now) (sym (ap length suits.head_is))
      (start suits.lawful suits.small c.args.list.now begun),
  refl,
)

pub returns-in_err-next-clause-reads : goal.returns-in_err-next-clause-reads
returns-in_err-next-clause-reads g c = λ L suits begun.
    let q = err_from_is_err_and c.from_residual.result c.from_residual.ensures.1 in
    rw (q.1, q.2) (c.in_err-next.ensures.reads L suits (c.loop-next.invariant.0 L suits begun))

pub returns-clause-reads : goal.returns-clause-reads
returns-clause-reads g c = λ L suits begun. rw c.in_default.is at (c.in_ok-next.ensures.reads L suits (c.loop-next.invariant.0 L suits begun))
