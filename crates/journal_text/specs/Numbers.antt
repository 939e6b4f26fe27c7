-- Decimal numbers. Assumes nothing.
use Rattle.std.specs.Prelude.{ℕ, ◌+◌, ◌-◌, ◌*◌, ◌^◌, cond, ◌&&◌, List, length, Ok, Err, fold, Result, nat_lt}
use Rattle.std.specs.List.{list_all}
use Rattle.journal_text.specs.declared.mistake.Mistake.{Mistake}
use Rattle.journal_text.specs.declared.mistake.Mistake.TheVariants.{NotANumber, OutOfRange}
use Rattle.journal_text.specs.declared.scan.Class.TheVariants.{Digit}
use Rattle.journal_text.specs.Scans.{within}

-- the number that decimal digits write
abbrev pub value : List ℕ → ℕ
value ds = fold (λ n d. n * 10 + (d - 48)) 0 ds

-- what a word says as a number: digits alone, and below 2 ^ 32
abbrev pub decimal : List ℕ → Result ℕ Mistake
decimal w = cond (nat_lt 0 (length w) && list_all (within Digit) w) (cond (nat_lt (value w) (2 ^ 32)) (Ok (value w)) (Err OutOfRange)) (Err NotANumber)
