-- Kinds of value: words with a zero, a one, a sum, a difference and a product; and the laws that a kind shows. Assumes nothing.
use Rattle.std.specs.Prelude.{◌≡◌, ℕ, ◌^◌, ◌<◌, Bool, T}

-- A kind: its code, its zero and one, which words are values, and its three operations.
pub record Kind : Type 0 where
  pub code : ℕ
  pub zero : ℕ
  pub one : ℕ
  pub value : ℕ → Bool
  pub sum : ℕ → ℕ → ℕ
  pub difference : ℕ → ℕ → ℕ
  pub product : ℕ → ℕ → ℕ

module _ (K : Kind) where
  open K use {zero, one, value, sum, difference, product}

  -- The laws of the three operations on values. A word is a number below 2 ^ 32.
  pub record Arithmetic : Type 0 where
    pub word : (a : ℕ) → T (value a) → a < 2 ^ 32
    pub zero_value : T (value zero)
    pub one_value : T (value one)
    pub apart : ¬ (zero ≡ one)
    pub sum_value : (a b : ℕ) → T (value a) → T (value b) → T (value (sum a b))
    pub difference_value : (a b : ℕ) → T (value a) → T (value b) → T (value (difference a b))
    pub product_value : (a b : ℕ) → T (value a) → T (value b) → T (value (product a b))
    pub sum_assoc : (a b c : ℕ) → T (value a) → T (value b) → T (value c) → sum (sum a b) c ≡ sum a (sum b c)
    pub sum_comm : (a b : ℕ) → T (value a) → T (value b) → sum a b ≡ sum b a
    pub sum_zero : (a : ℕ) → T (value a) → sum a zero ≡ a
    pub sum_difference : (a b : ℕ) → T (value a) → T (value b) → difference (sum a b) b ≡ a
    pub difference_sum : (a b : ℕ) → T (value a) → T (value b) → sum (difference a b) b ≡ a
    pub product_one : (a : ℕ) → T (value a) → product a one ≡ a
    pub one_product : (a : ℕ) → T (value a) → product one a ≡ a
    pub product_zero : (a : ℕ) → T (value a) → product a zero ≡ zero
    pub zero_product : (a : ℕ) → T (value a) → product zero a ≡ zero
    pub product_sum : (a b c : ℕ) → T (value a) → T (value b) → T (value c) → product a (sum b c) ≡ sum (product a b) (product a c)
    pub sum_product : (a b c : ℕ) → T (value a) → T (value b) → T (value c) → product (sum a b) c ≡ sum (product a c) (product b c)

  -- What a kind shows: its code is a byte, the laws on values, and that a word which is no value answers zero.
  pub record Laws : Type 0 where
    pub code_byte : K.code < 256
    pub arithmetic : Arithmetic
    pub sum_stray : (a b : ℕ) → a < 2 ^ 32 → b < 2 ^ 32 → ¬ (T (value a) × T (value b)) → sum a b ≡ zero
    pub difference_stray : (a b : ℕ) → a < 2 ^ 32 → b < 2 ^ 32 → ¬ (T (value a) × T (value b)) → difference a b ≡ zero
    pub product_stray : (a b : ℕ) → a < 2 ^ 32 → b < 2 ^ 32 → ¬ (T (value a) × T (value b)) → product a b ≡ zero
