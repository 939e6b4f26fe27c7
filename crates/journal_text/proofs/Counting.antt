-- The number that digits write. Assumes nothing.
use Rattle.std.proofs.Common.{◌≡◌, ℕ, ◌+◌, ◌-◌, ◌*◌, ◌^◌, ◌<◌, true, ◌&&◌, ltb, List, length, Ok, Err, Result, fold, inl, inr, arith, rules, subst}
use Rattle.std.specs.List.{list_all}
use Rattle.std.specs.Result.{OkIff, result_or}
use Rattle.std.specs.Str.Parse.{ParsesUnsigned}
use Rattle.std.proofs.lemmas.Bool.Decides.{nat_tests}
use Rattle.std.proofs.lemmas.Bool.{and_parts, ltb-true, lt-ltb, le-ltb}
use Rattle.std.proofs.lemmas.Str.Parse.{IsNumeralModel, numerals_by_fold, parse_digits}
use Rattle.journal_text.proofs.Ascii.{is_text}
use Rattle.journal_text.specs.declared.mistake.Mistake.TheVariants.{OutOfRange}
use Rattle.journal_text.specs.declared.scan.Class.TheVariants.{Digit}
use Rattle.journal_text.specs.Numbers.{value, decimal}
use Rattle.journal_text.specs.Scans.{within, Shows}

-- digits are text
shown : (w text : List ℕ) → Shows w text → list_all (within Digit) w ≡ true → text ≡ w
shown w text (inl e) all = e
shown w text (inr (e, bad)) all = absurd (bad (is_text (within Digit) (λ b h. grind (arith, nat_tests)) w all))

-- digits, and the number that they write
digits_model : IsNumeralModel (λ w. list_all (within Digit) w ≡ true) value
digits_model = numerals_by_fold _ (search rules) (fold (λ n d. n * 10 + (d - 48))) (search rules)

-- digits parse as their number, unless it is out of range
pub parsed : {E : Type 0} (w text : List ℕ) (r : Result ℕ E) → Shows w text → (ltb 0 (length w) && list_all (within Digit) w) ≡ true → ParsesUnsigned 32 10 text r → result_or r (Err OutOfRange) ≡ decimal w
parsed w text r shows digits h = by r (parse_digits digits_model 32 w r (subst (λ t. ParsesUnsigned 32 10 t r) (shown w text shows both.1) h) both.1)
  where
    both : (ltb 0 (length w) ≡ true) × (list_all (within Digit) w ≡ true)
    both = and_parts (ltb 0 (length w)) (list_all (within Digit) w) digits

    by : {E : Type 0} (r : Result ℕ E) → OkIff r ((0 < length w) × (value w < 2 ^ 32)) (value w) → result_or r (Err OutOfRange) ≡ decimal w
    by (Ok n) is = rw (digits, lt-ltb (value w) (2 ^ 32) is.0.1, is.1)
    by (Err e) is =
        let far : value w < 2 ^ 32 → ⊥ = λ near. is (ltb-true 0 (length w) both.0, near) in
        rw (digits, le-ltb (value w) (2 ^ 32) (omega arith))
