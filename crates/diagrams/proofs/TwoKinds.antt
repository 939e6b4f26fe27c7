-- The laws of the two kinds. Assumes nothing.
use Rattle.std.proofs.Common.{◌≡◌, ℕ, zero, suc, ◌+◌, ◌*◌, ◌/◌, ◌%◌, ◌^◌, ◌<◌, Bool, true, false, cond, ◌&&◌, T, ltb, sym, refl, ap, ◌∙◌, mul_assoc, mul_comm, div-add-mod', mul-add, arith, lit<, ltb→lt, lt→ltb}
use native.Mathlib.Nat.{mul-add-mod_self_right}
use lib.Bits.{bit_and, bit_xor, xor_lt, and_lt, xor_assoc, xor_comm, xor_self, xor_zero_r, and_zero_r, and_comm}
use Rattle.diagrams.specs.Kinds.{Kind, Arithmetic, Laws}
use Rattle.diagrams.specs.TwoKinds.{guarded, bits, words, yes_no, points}

both : {A : Type 0} (s t : Bool) (x y : A) → T s → T t → cond (s && t) x y ≡ x
both true true x y p q = refl
both true false x y p q = absurd q
both false t x y p q = absurd p

neither : {A : Type 0} (s t : Bool) (x y : A) → ¬ (T s × T t) → cond (s && t) x y ≡ y
neither true true x y p = absurd (p (tt, tt))
neither true false x y p = refl
neither false t x y p = refl

-- A kind with the laws on values, guarded, shows all laws.
module _ (K : Kind) (byte : K.code < 256) (laws : Arithmetic K) where
  guarded_arithmetic : Arithmetic (guarded K)
  guarded_arithmetic = record {
    word = laws.word;
    zero_value = laws.zero_value;
    one_value = laws.one_value;
    apart = laws.apart;
    sum_value = λ a b p q. simp both (laws.sum_value a b p q);
    difference_value = λ a b p q. simp both (laws.difference_value a b p q);
    product_value = λ a b p q. simp both (laws.product_value a b p q);
    sum_assoc = λ a b c p q r. simp (both, laws.sum_value) (laws.sum_assoc a b c p q r);
    sum_comm = λ a b p q. simp both (laws.sum_comm a b p q);
    sum_zero = λ a p. simp (both, laws.zero_value) (laws.sum_zero a p);
    sum_difference = λ a b p q. simp (both, laws.sum_value) (laws.sum_difference a b p q);
    difference_sum = λ a b p q. simp (both, laws.difference_value) (laws.difference_sum a b p q);
    product_one = λ a p. simp (both, laws.one_value) (laws.product_one a p);
    one_product = λ a p. simp (both, laws.one_value) (laws.one_product a p);
    product_zero = λ a p. simp (both, laws.zero_value) (laws.product_zero a p);
    zero_product = λ a p. simp (both, laws.zero_value) (laws.zero_product a p);
    product_sum = λ a b c p q r. simp (both, laws.sum_value, laws.product_value) (laws.product_sum a b c p q r);
    sum_product = λ a b c p q r. simp (both, laws.sum_value, laws.product_value) (laws.sum_product a b c p q r);
  }

  pub guarded_laws : Laws (guarded K)
  guarded_laws = record {
    code_byte = byte;
    arithmetic = guarded_arithmetic;
    sum_stray = λ a b p q s. neither _ _ _ _ s;
    difference_stray = λ a b p q s. neither _ _ _ _ s;
    product_stray = λ a b p q s. neither _ _ _ _ s;
  }

-- What holds of 0 and of 1 holds of every bit.
each : (P : ℕ → Type 0) → P 0 → P 1 → (a : ℕ) → T (ltb a 2) → P a
each P p q zero h = p
each P p q (suc zero) h = q
each P p q (suc (suc a)) h = absurd (omega (arith, ltb→lt (suc (suc a)) 2 h))

xor_bit : (a b : ℕ) → T (ltb a 2) → T (ltb b 2) → T (ltb (bit_xor a b) 2)
xor_bit a b p q = lt→ltb _ _ (xor_lt 1 a b (ltb→lt a 2 p) (ltb→lt b 2 q))

and_one : (a : ℕ) → T (ltb a 2) → bit_and a 1 ≡ a
and_one a p = each (λ a. bit_and a 1 ≡ a) refl refl a p

one_and : (a : ℕ) → T (ltb a 2) → bit_and 1 a ≡ a
one_and a p = each (λ a. bit_and 1 a ≡ a) refl refl a p

and_xor : (a b c : ℕ) → T (ltb a 2) → T (ltb b 2) → T (ltb c 2) → bit_and a (bit_xor b c) ≡ bit_xor (bit_and a b) (bit_and a c)
and_xor a b c p q r = each (λ a. bit_and a (bit_xor b c) ≡ bit_xor (bit_and a b) (bit_and a c)) refl (simp (one_and, xor_bit)) a p

xor_xor : (a b : ℕ) → bit_xor (bit_xor a b) b ≡ a
xor_xor a b = simp (xor_assoc, xor_self, xor_zero_r)

bits_arithmetic : Arithmetic bits
bits_arithmetic = record {
  word = λ a p. omega (arith, ltb→lt a 2 p);
  zero_value = tt;
  one_value = tt;
  apart = λ e. omega arith;
  sum_value = xor_bit;
  difference_value = xor_bit;
  product_value = λ a b p q. lt→ltb _ _ (and_lt 1 a b (ltb→lt a 2 p) (ltb→lt b 2 q));
  sum_assoc = λ a b c p q r. xor_assoc a b c;
  sum_comm = λ a b p q. xor_comm a b;
  sum_zero = λ a p. xor_zero_r a;
  sum_difference = λ a b p q. xor_xor a b;
  difference_sum = λ a b p q. xor_xor a b;
  product_one = and_one;
  one_product = one_and;
  product_zero = λ a p. and_zero_r a;
  zero_product = λ a p. refl;
  product_sum = and_xor;
  sum_product = λ a b c p q r. and_comm _ c ∙ and_xor c a b r p q ∙ simp (and_comm c a, and_comm c b);
}

below : (a : ℕ) → T (ltb (a % 2 ^ 32) (2 ^ 32))
below a = lt→ltb _ _ (omega arith)

mul_mod : (a b : ℕ) → a * (b % 2 ^ 32) % 2 ^ 32 ≡ a * b % 2 ^ 32
mul_mod a b =
    let m : ℕ = 2 ^ 32 in
    let parts : a * (b / m) * m + a * (b % m) ≡ a * b = ap (λ x. x + a * (b % m)) (mul_assoc a (b / m) m) ∙ sym (mul-add a _ _) ∙ ap (λ x. a * x) (div-add-mod' b m) in
    sym (ap (λ x. x % m) (sym parts) ∙ mul-add-mod_self_right (a * (b / m)) m (a * (b % m)))

distributes : (a b c : ℕ) → T (words.value a) → T (words.value b) → T (words.value c)
    → a * ((b + c) % 2 ^ 32) % 2 ^ 32 ≡ (a * b % 2 ^ 32 + a * c % 2 ^ 32) % 2 ^ 32
distributes a b c p q r = mul_mod a (b + c) ∙ ap (λ x. x % 2 ^ 32) (mul-add a b c) ∙ omega arith

words_arithmetic : Arithmetic words
words_arithmetic = record {
  word = λ a p. ltb→lt a (2 ^ 32) p;
  zero_value = tt;
  one_value = tt;
  apart = λ e. omega arith;
  sum_value = λ a b p q. below _;
  difference_value = λ a b p q. below _;
  product_value = λ a b p q. below _;
  sum_assoc = λ a b c p q r. omega arith;
  sum_comm = λ a b p q. omega arith;
  sum_zero = λ a p. omega (arith, ltb→lt a (2 ^ 32) p);
  sum_difference = λ a b p q. omega (arith, ltb→lt a (2 ^ 32) p, ltb→lt b (2 ^ 32) q);
  difference_sum = λ a b p q. omega (arith, ltb→lt a (2 ^ 32) p, ltb→lt b (2 ^ 32) q);
  product_one = λ a p. omega (arith, ltb→lt a (2 ^ 32) p);
  one_product = λ a p. omega (arith, ltb→lt a (2 ^ 32) p);
  product_zero = λ a p. omega arith;
  zero_product = λ a p. omega arith;
  product_sum = distributes;
  sum_product = λ a b c p q r. ap (λ x. x % 2 ^ 32) (mul_comm _ c) ∙ distributes c a b r p q ∙ simp (mul_comm c a, mul_comm c b);
}

pub yes_no_laws : Laws yes_no
yes_no_laws = guarded_laws bits (lit< tt) bits_arithmetic

pub points_laws : Laws points
points_laws = guarded_laws words (lit< tt) words_arithmetic
