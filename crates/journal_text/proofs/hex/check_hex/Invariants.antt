use Rattle.std.proofs.Common.{◌≡◌, List, ℕ}
use Rattle.std.specs.Slice.Iter.{chunks_rest, chunks_size}
use Rattle.journal_text.specs.Hex.{bytes_of, digits_of}
use Rattle.journal_text.proofs.Pairs.{follows}
use Rattle.journal_text.proofs.hex.check_hex.Given as goal

abbrev pub invariant-loop-pair : goal.invariant-loop-pair
invariant-loop-pair l = (chunks_size l.pair-iterator ≡ 2) × ((bs : List ℕ) × (bytes_of (digits_of l.text) ≡ follows bs (bytes_of (chunks_rest l.pair-iterator))))
