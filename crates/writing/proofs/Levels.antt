-- Bytes of which one is pushed for each level. Assumes nothing.
use Rattle.std.proofs.Common.{◌≡◌, ℕ, zero, suc, ◌+◌, List, [], ◌∷◌, ◌++◌, sym, ap, ◌∙◌, add-one, arith}
use Rattle.std.proofs.lemmas.List.{append_assoc}
use Rattle.diagrams.specs.Sheets.{by_level}

by_level_last : (k l : ℕ) (f : ℕ → ℕ) → by_level (suc k) l f ≡ by_level k l f ++ (f (l + k) ∷ [])
by_level_last zero l f = ap (λ (i : ℕ). f i ∷ []) (omega arith)
by_level_last (suc k) l f =
    ap (λ (r : List ℕ). f l ∷ r) (by_level_last k (suc l) f ∙ ap (λ (i : ℕ). by_level k (suc l) f ++ (f i ∷ [])) (omega arith))

-- The byte of one level more.
pub level_more : (before bytes : List ℕ) (k : ℕ) (f : ℕ → ℕ) → bytes ≡ before ++ by_level k 0 f → (x : ℕ) → x ≡ f k
    → bytes ++ (x ∷ []) ≡ before ++ by_level (k + 1) 0 f
level_more before bytes k f e x is =
    ap (λ (r : List ℕ). r ++ (x ∷ [])) e
    ∙ append_assoc before (by_level k 0 f) (x ∷ [])
    ∙ ap (λ (r : List ℕ). before ++ r)
    (ap (λ (y : ℕ). by_level k 0 f ++ (y ∷ [])) (is ∙ ap f (omega arith)) ∙ sym (by_level_last k 0 f) ∙ ap (λ (n : ℕ). by_level n 0 f) (sym (add-one k)))
