-- Walk lists: their first entries made zero, and the rest as it was. Assumes nothing.
use Rattle.std.proofs.Common.{◌≡◌, ℕ, ◌<◌, ◌≤◌, List, ◌++◌, length, get_or, drop, replicate, ap, ◌∙◌, arith}
use Rattle.std.proofs.lemmas.Bool.{le-leb, lt-leb}
use Rattle.std.proofs.lemmas.List.{length-replicate, get_or-replicate, get_or_append_left, drop_at}
use Rattle.histories.specs.Steps.{wiped}

-- A walk keeps the entries past n, and its guard makes the first n zero: together they wipe the list.
pub wiped_from : (n : ℕ) (xs ys zs : List ℕ) → n ≤ length xs → drop n ys ≡ drop n xs → zs ≡ replicate n 0 ++ drop n ys → zs ≡ wiped n xs
wiped_from n xs ys zs long past e = e ∙ rw (le-leb n (length xs) long, past)

-- A list that is too short stays as it is.
pub short_wiped : (n : ℕ) (xs : List ℕ) → length xs < n → xs ≡ wiped n xs
short_wiped n xs short = rw (lt-leb n (length xs) short)

-- The first entries of a cleared list are zero.
pub cleared_zero : (n : ℕ) (xs ys : List ℕ) → ys ≡ replicate n 0 ++ drop n xs → (i : ℕ) → i < n → get_or ys i 0 ≡ 0
cleared_zero n xs ys e i lt =
    let inside : i < length {A = ℕ} (replicate n 0) = omega (arith, length-replicate {A = ℕ} n 0) in
    ap (λ (l : List ℕ). get_or l i 0) e ∙ get_or_append_left (replicate n 0) (drop n xs) 0 i inside ∙ get_or-replicate n i 0 0 lt

-- The other entries are as they were.
pub cleared_past : (n : ℕ) (xs ys : List ℕ) → ys ≡ replicate n 0 ++ drop n xs → drop n ys ≡ drop n xs
cleared_past n xs ys e = ap (drop n) e ∙ drop_at (replicate n 0) (drop n xs) n (length-replicate {A = ℕ} n 0)
