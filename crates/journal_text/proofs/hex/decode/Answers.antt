use Rattle.std.proofs.Common.{sym, ◌∙◌}
use Rattle.std.proofs.lemmas.Result.{err_from_is_err_and}
use Rattle.journal_text.proofs.Pairs.{byte_more, no_byte}
use Rattle.journal_text.proofs.hex.decode.Goals as goal

pub loop-pair-preserved : goal.loop-pair-preserved
loop-pair-preserved c =
    let step = c.in-Some.ensures.steps in
    let more = byte_more c.args.digits.now c.loop-pair.pair-iterator c.next.new.self c.in-Some.pair step c.loop-pair.invariant.0 _ c.loop-pair.invariant.1 c.in_ok-byte_of.field-0 (sym c.in_ok-byte_of.ensures) in
    (step.0 ∙ c.loop-pair.invariant.0, rw c.in_ok-push.ensures.items more)

pub returns-in_err-byte_of : goal.returns-in_err-byte_of
returns-in_err-byte_of c =
    let bad = no_byte c.args.digits.now c.loop-pair.pair-iterator c.next.new.self c.in-Some.pair c.in-Some.ensures.steps c.loop-pair.invariant.0 _ c.loop-pair.invariant.1 c.in_err-byte_of.field-0.0 (sym c.in_err-byte_of.ensures) in
    let p = err_from_is_err_and c.from_residual.result c.from_residual.ensures.1 in
    rw (p.1, p.2) bad
