-- ASCII is text. Assumes nothing.
use Rattle.std.proofs.Common.{◌≡◌, ℕ, zero, suc, ◌<◌, Bool, true, List, [], ◌∷◌, get_or, IsUtf8, arith}
use Rattle.std.specs.List.{list_all}
use Rattle.std.proofs.lemmas.Bool.{and_parts}
use Rattle.std.proofs.lemmas.Str.{IsUtf8-from_ascii}

-- what is ASCII alone is text
pub is_text : (p : ℕ → Bool) → ((b : ℕ) → p b ≡ true → b < 128) → (w : List ℕ) → list_all p w ≡ true → IsUtf8 w
is_text p ascii w all = IsUtf8-from_ascii w (below w all)
  where
    below : (w : List ℕ) → list_all p w ≡ true → (i : ℕ) → get_or w i 0 < 128
    below [] all i = omega arith
    below (b ∷ w) all zero = ascii b (and_parts (p b) (list_all p w) all).0
    below (b ∷ w) all (suc i) = below w (and_parts (p b) (list_all p w) all).1 i
