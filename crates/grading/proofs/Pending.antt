-- What pushing and popping do to the pending places. Assumes nothing.
use Rattle.std.proofs.Common.{◌≡◌, ℕ, List, [], ◌∷◌, ◌++◌, reverse, ap, ◌∙◌}
use Rattle.std.proofs.lemmas.List.{reverse-append}

-- What is put last comes first.
pub last_first : (xs ys : List ℕ) (h : ℕ) → xs ≡ ys ++ (h ∷ []) → reverse xs ≡ h ∷ reverse ys
last_first xs ys h e = ap reverse e ∙ reverse-append ys (h ∷ [])
