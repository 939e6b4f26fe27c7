use Rattle.std.proofs.Common.{append_assoc, sym, arith}
use Rattle.journal_text.proofs.Pairs.{digits_push}
use Rattle.journal_text.proofs.hex.chunk_digits.Goals as goal

pub loop-byte-preserved : goal.loop-byte-preserved
loop-byte-preserved c = (
  omega (arith, c.push.ensures.len, c.push-in-loop-byte.ensures.len),
  rw (c.push-in-loop-byte.ensures.items, c.push.ensures.items, c.loop-byte.invariant.1, c.hex_digit.ensures, c.hex_digit-in-loop-byte.ensures, append_assoc)
      (sym (digits_push c.args.bytes.now c.loop-byte.byte-index c.loop-byte-test.true)),
)
