-- Beginning, exchange and a new type give valid layouts; a mark as the code reads it. Assumes nothing.
use Rattle.std.proofs.Common.{◌≡◌, ℕ, ◌/◌, ◌^◌, ◌<◌, refl, ap, ◌∙◌, arith}
use lib.Bits.{bit_and}
use Rattle.std.proofs.lemmas.Nat.{and_mask}
use Rattle.diagrams.specs.Layouts.{Decomposition, Layout, Valid, bit, begun, swapped, exchanged, retyped}

pub begun_valid : (n : ℕ) → 0 < n → n < 33 → Valid (begun n)
begun_valid n h k = record {
  some = h;
  most = k;
  mark_within = λ l p. p;
  level_within = λ i p. p;
  level_mark = λ l p. refl;
  mark_level = λ i p. refl;
}

pub swapped_within : (n l m k : ℕ) → l < n → m < n → k < n → swapped l m k < n
swapped_within n l m k p q r = grind arith

pub swapped_twice : (l m k : ℕ) → swapped l m (swapped l m k) ≡ k
swapped_twice l m k = grind arith

pub exchanged_valid : (L : Layout) (l m : ℕ) → l < L.size → m < L.size → Valid L → Valid (exchanged l m L)
exchanged_valid L l m p q s = record {
  some = s.some;
  most = s.most;
  mark_within = λ k h. s.mark_within _ (swapped_within _ l m k p q h);
  level_within = λ i h. swapped_within _ l m _ p q (s.level_within i h);
  level_mark = λ k h. ap (swapped l m) (s.level_mark _ (swapped_within _ l m k p q h)) ∙ swapped_twice l m k;
  mark_level = λ i h. ap L.mark (swapped_twice l m (L.level i)) ∙ s.mark_level i h;
}

pub retyped_valid : (L : Layout) (i : ℕ) (t : Decomposition) → Valid L → Valid (retyped i t L)
retyped_valid L i t s = record {
  some = s.some;
  most = s.most;
  mark_within = s.mark_within;
  level_within = s.level_within;
  level_mark = s.level_mark;
  mark_level = s.mark_level;
}

-- `(fruit >> i) & 1`
pub shifted_bit : (i w : ℕ) → bit_and (w / 2 ^ i) 1 ≡ bit i w
shifted_bit i w = and_mask (w / 2 ^ i) 1
