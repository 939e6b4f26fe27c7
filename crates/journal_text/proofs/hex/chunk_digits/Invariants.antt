use Rattle.std.proofs.Common.{◌≡◌, ◌*◌, length, take}
use Rattle.journal_text.specs.Hex.{digits}
use Rattle.journal_text.proofs.hex.chunk_digits.Given as goal

abbrev pub invariant-loop-byte : goal.invariant-loop-byte
invariant-loop-byte l = (length l.written.items ≡ 2 * l.byte-index) × (l.written.items ≡ digits (take l.byte-index l.bytes))
