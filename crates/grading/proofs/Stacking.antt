-- How many places are open at once, and for how many turns. Assumes nothing.
use Rattle.std.proofs.Common.{◌≡◌, ℕ, zero, suc, ◌+◌, ◌-◌, ◌<◌, ◌≤◌, Bool, true, false, eqb, List, [], ◌∷◌, ◌++◌, length, refl, ap, arith}
use Rattle.diagrams.specs.Layouts.{Decomposition, shannon, positive, negative, Layout, bit}
use Rattle.diagrams.specs.Places.{Content, free, leaf_word, node_at}
use Rattle.places.specs.declared.places.Places.{Places}
use Rattle.places.specs.Contents.{depth}
use Rattle.places.specs.Tables.{holds}
use Rattle.places.proofs.Extending.{node_under}
use Rattle.layouts.specs.Turns.{chosen}
use Rattle.grading.specs.Turns.{opened}

-- What holds of low alone, of high alone and of both holds of the children that are chosen.
pub chosen_cases : (P : List ℕ → Type 0) (x y : ℕ) → P (x ∷ []) → P (y ∷ []) → P (x ∷ y ∷ []) → (k : Decomposition) (b : Bool) → P (chosen k b x y)
chosen_cases P x y low high both shannon false = low
chosen_cases P x y low high both shannon true = high
chosen_cases P x y low high both positive false = low
chosen_cases P x y low high both positive true = both
chosen_cases P x y low high both negative false = both
chosen_cases P x y low high both negative true = low

-- The turns that a place takes at most, with n levels below its own.
abbrev pub turns : ℕ → ℕ
turns zero = 1
turns (suc n) = suc (turns n + turns n)

turns_more : (m n : ℕ) → m ≤ n → turns m ≤ turns n
turns_more zero zero h = omega arith
turns_more zero (suc n) h = omega arith
turns_more (suc m) zero h = absurd (omega arith)
turns_more (suc m) (suc n) h = omega (arith, turns_more m n (omega arith))

module _ (t : Places) where
  -- No more places lie under an open one than its level says.
  abbrev pub Stacked : List ℕ → Type 0
  Stacked [] = Unit {0}
  Stacked (h ∷ hs) = (length hs ≤ depth (holds t h)) × Stacked hs

  -- The turns that open places take at most.
  abbrev pub weight : List ℕ → ℕ
  weight [] = 0
  weight (h ∷ hs) = turns (32 - depth (holds t h)) + weight hs

  module _ (L : Layout) (fruit h : ℕ) (hs : List ℕ) where
    stacked_at : (c : Content) → holds t h ≡ c → length hs ≤ depth c → Stacked hs → Stacked (opened L fruit c ++ hs)
    stacked_at free e le s = s
    stacked_at (leaf_word v) e le s = s
    stacked_at (node_at l x y) e le s =
        let u = node_under t h l x y e in
        let x_deep : l + 1 ≤ depth (holds t x) = u.1.level in
        let y_deep : l + 1 ≤ depth (holds t y) = u.2.level in
        chosen_cases (λ xs. Stacked (xs ++ hs)) x y (omega arith, s) (omega arith, s) (omega arith, (omega arith, s)) (L.type l) (eqb (bit (L.mark l) fruit) 1)

    pub opened_stacked : Stacked (h ∷ hs) → Stacked (opened L fruit (holds t h) ++ hs)
    opened_stacked s = stacked_at (holds t h) refl s.0 s.1

    lighter_at : (c : Content) → holds t h ≡ c → weight (opened L fruit c ++ hs) < turns (32 - depth c) + weight hs
    lighter_at free e = omega arith
    lighter_at (leaf_word v) e = omega arith
    lighter_at (node_at l x y) e =
        let u = node_under t h l x y e in
        let above : 32 - l ≡ suc (31 - l) = omega (arith, u.0) in
        let next : turns (32 - l) ≡ suc (turns (31 - l) + turns (31 - l)) = ap turns above in
        let some : 1 ≤ turns (31 - l) = turns_more 0 (31 - l) (omega arith) in
        let x_fewer : turns (32 - depth (holds t x)) ≤ turns (31 - l) = turns_more _ _ (omega (arith, u.1.level)) in
        let y_fewer : turns (32 - depth (holds t y)) ≤ turns (31 - l) = turns_more _ _ (omega (arith, u.2.level)) in
        chosen_cases (λ xs. weight (xs ++ hs) < turns (32 - l) + weight hs) x y (omega arith) (omega arith) (omega arith) (L.type l) (eqb (bit (L.mark l) fruit) 1)

    pub opened_lighter : weight (opened L fruit (holds t h) ++ hs) < weight (h ∷ hs)
    opened_lighter = lighter_at (holds t h) refl
