use Rattle.std.proofs.Common.{[], ◌∷◌, ◌++◌, sym, ap, ◌∙◌}
use Rattle.std.proofs.lemmas.Result.{err_from_is_err_and}
use Rattle.std.specs.Slice.Iter.{chunks_rest, chunks_size}
use Rattle.journal_text.specs.Hex.{bytes_of, digits_of}
use Rattle.journal_text.proofs.Pairs.{follows_none, byte_more, no_byte}
use Rattle.journal_text.proofs.hex.check_hex.Goals as goal

pub loop-pair-init : goal.loop-pair-init
loop-pair-init c =
    let it = c.into_iter-pair-iterator.ensures.into_iter_gives in
    (ap chunks_size it ∙ c.chunks-pair-items.ensures.size, ([], sym (follows_none (bytes_of (chunks_rest c.into_iter-pair-iterator.result)) ∙ ap (λ s. bytes_of (chunks_rest s)) it ∙ ap bytes_of (c.chunks-pair-items.ensures.rest ∙ c.digits.ensures))))

pub loop-pair-preserved : goal.loop-pair-preserved
loop-pair-preserved c =
    let step = c.in-Some.ensures.steps in
    let bs = c.loop-pair.invariant.1.0 in
    let b = c.in_ok-byte_of.field-0 in
    (step.0 ∙ c.loop-pair.invariant.0, (bs ++ (b ∷ []), byte_more (digits_of c.args.text.now) c.loop-pair.pair-iterator c.next.new.self c.in-Some.pair step c.loop-pair.invariant.0 bs c.loop-pair.invariant.1.1 b (sym c.in_ok-byte_of.ensures)))

pub returns-in_err-byte_of : goal.returns-in_err-byte_of
returns-in_err-byte_of c =
    let p = err_from_is_err_and c.from_residual.result c.from_residual.ensures.1 in
    rw (p.1, p.2) (no_byte (digits_of c.args.text.now) c.loop-pair.pair-iterator c.next.new.self c.in-Some.pair c.in-Some.ensures.steps c.loop-pair.invariant.0 c.loop-pair.invariant.1.0 c.loop-pair.invariant.1.1 c.in_err-byte_of.field-0.0 (sym c.in_err-byte_of.ensures))
