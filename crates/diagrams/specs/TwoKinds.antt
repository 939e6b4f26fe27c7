-- The two kinds. Assumes nothing.
use Rattle.std.specs.Prelude.{ℕ, ◌+◌, ◌-◌, ◌*◌, ◌%◌, ◌^◌, cond, ◌&&◌, bit_and, nat_lt}
use Rattle.std.specs.Int.Bits.{bit_xor}
use Rattle.diagrams.specs.Kinds.{Kind}

-- A kind whose operations answer zero unless both words are values.
abbrev pub guarded : Kind → Kind
guarded K =
    let guard : (ℕ → ℕ → ℕ) → ℕ → ℕ → ℕ = λ op a b. cond (K.value a && K.value b) (op a b) K.zero in
    record {
      code = K.code;
      zero = K.zero;
      one = K.one;
      value = K.value;
      sum = guard K.sum;
      difference = guard K.difference;
      product = guard K.product;
    }

-- Bits: the sum and the difference exclusive or, the product and.
abbrev pub bits : Kind
bits = record { code = 1; zero = 0; one = 1; value = λ w. nat_lt w 2; sum = bit_xor; difference = bit_xor; product = bit_and }

-- Words of 32 bits, with arithmetic modulo 2 ^ 32.
abbrev pub words : Kind
words = record {
  code = 2;
  zero = 0;
  one = 1;
  value = λ w. nat_lt w (2 ^ 32);
  sum = λ a b. (a + b) % 2 ^ 32;
  difference = λ a b. (a + (2 ^ 32 - b)) % 2 ^ 32;
  product = λ a b. (a * b) % 2 ^ 32;
}

-- The kind of yes and no.
abbrev pub yes_no : Kind
yes_no = guarded bits

-- The kind of points.
abbrev pub points : Kind
points = guarded words
