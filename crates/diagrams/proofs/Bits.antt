-- The marks of a fruit in which one mark is put to a constant. Assumes nothing.
use Rattle.std.proofs.Common.{◌≡◌, ℕ, zero, suc, ◌/◌, ◌%◌, ◌^◌, ◌<◌, sym, refl, ap, ◌∙◌, one-add, arith}
use native.Mathlib.Decide.{ℕ_discrete}
use Rattle.std.proofs.lemmas.Nat.{shr-shr}
use Rattle.diagrams.specs.Layouts.{bit, put}

pub bit_suc : (i w : ℕ) → bit (suc i) w ≡ bit i (w / 2)
bit_suc i w = rw (← one-add i) (ap (λ n. n % 2) (sym (shr-shr w 1 i)))

pub bit_put : (i c w : ℕ) → c < 2 → bit i (put i c w) ≡ c
bit_put zero c w h = omega arith
bit_put (suc i) c w h = bit_suc i (put (suc i) c w) ∙ ap (bit i) (omega arith) ∙ bit_put i c (w / 2) h

pub bit_put_other : (i j c w : ℕ) → c < 2 → ¬ (i ≡ j) → bit j (put i c w) ≡ bit j w
bit_put_other zero zero c w h ne = absurd (ne refl)
bit_put_other zero (suc j) c w h ne = bit_suc j (put zero c w) ∙ ap (bit j) (omega arith) ∙ sym (bit_suc j w)
bit_put_other (suc i) zero c w h ne = omega arith
bit_put_other (suc i) (suc j) c w h ne =
    bit_suc j (put (suc i) c w) ∙ ap (bit j) (omega arith) ∙ bit_put_other i j c (w / 2) h (λ e. ne (ap suc e)) ∙ sym (bit_suc j w)

pub put_below : (n i c w : ℕ) → c < 2 → i < n → w < 2 ^ n → put i c w < 2 ^ n
put_below zero i c w h k b = absurd (omega arith)
put_below (suc n) zero c w h k b = omega arith
put_below (suc n) (suc i) c w h k b = omega (arith, put_below n i c (w / 2) h (omega arith) (omega arith))

-- A mark put to what it is.
pub put_bit : (i w : ℕ) → put i (bit i w) w ≡ w
put_bit zero w = omega arith
put_bit (suc i) w = omega (arith, ap (λ c. put i c (w / 2)) (bit_suc i w) ∙ put_bit i (w / 2))

-- Fruits that agree at mark j still do once mark i is put to c in both.
pub bit_puts : (i j c w w' : ℕ) → c < 2 → (¬ (i ≡ j) → bit j w ≡ bit j w') → bit j (put i c w) ≡ bit j (put i c w')
bit_puts i j c w w' h agree =
    elim (ℕ_discrete i j) [
      | yes e ↦ rw (← e) (bit_put i c w h ∙ sym (bit_put i c w' h))
      | no n ↦ bit_put_other i j c w h n ∙ agree n ∙ sym (bit_put_other i j c w' h n)
    ]
