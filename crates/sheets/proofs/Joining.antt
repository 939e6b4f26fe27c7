-- Bytes put into an output one run after another. Assumes nothing.
use Rattle.std.proofs.Common.{◌≡◌, ℕ, suc, ◌+◌, List, [], ◌∷◌, ◌++◌, length, set, ap, ◌∙◌, ap₂, arith, length-append}
use lib.Seq.{sets}

-- A run right after a run is one run.
pub sets_join : (out : List ℕ) (i : ℕ) (xs ys : List ℕ) → sets (sets out i xs) (i + length xs) ys ≡ sets out i (xs ++ ys)
sets_join out i [] ys = ap (λ (k : ℕ). sets out k ys) (omega arith)
sets_join out i (x ∷ xs) ys =
    ap (λ (k : ℕ). sets (sets (set out i x) (suc i) xs) k ys) (omega arith) ∙ sets_join (set out i x) (suc i) xs ys

module _ (out mid : List ℕ) (i at : ℕ) (xs ys : List ℕ) (first : mid ≡ sets out i xs) (after : at ≡ i + length xs) where
  -- What stands in an output after two runs, of which the second begins where the first ends.
  pub sets_then : (end : List ℕ) → end ≡ sets mid at ys → end ≡ sets out i (xs ++ ys)
  sets_then end second = second ∙ ap₂ (λ (o : List ℕ) (k : ℕ). sets o k ys) first after ∙ sets_join out i xs ys

  -- Where the second run ends.
  pub place_then : (place : ℕ) → place ≡ at + length ys → place ≡ i + length (xs ++ ys)
  place_then place e = omega (arith, length-append xs ys)
