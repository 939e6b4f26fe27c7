use Rattle.std.proofs.Common.{◌≡◌, vec_items}
use Rattle.std.specs.Slice.Iter.{chunks_rest, chunks_size}
use Rattle.journal_text.specs.Hex.{bytes_of}
use Rattle.journal_text.proofs.Pairs.{follows}
use Rattle.journal_text.proofs.hex.decode.Given as goal

abbrev pub invariant-loop-pair : goal.invariant-loop-pair
invariant-loop-pair l = (chunks_size l.pair-iterator ≡ 2) × (bytes_of l.digits ≡ follows (vec_items l.bytes) (bytes_of (chunks_rest l.pair-iterator)))
