-- What is wrong with the head is wrong with the sheet. Assumes nothing.
use Rattle.std.proofs.lemmas.Result.{err_from_is_err_and}
use Rattle.sheets.proofs.Scanning.{head_breaks}
use Rattle.sheets.proofs.check.check.Goals as goal

pub returns-in_err-check_head-clause-answer : goal.returns-in_err-check_head-clause-answer
returns-in_err-check_head-clause-answer g c = λ L suits.
    let q = err_from_is_err_and c.from_residual.result c.from_residual.ensures.1 in
    rw (q.1, q.2)
    (head_breaks g.V.Value.kind L suits.lawful c.args.expected.limit suits.small c.args.bytes.now c.in_err-check_head.field-0.0
    (c.in_err-check_head.ensures g.V.Value.kind L suits))
