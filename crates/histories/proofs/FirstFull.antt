-- The first record of a sheet that finds the table full is one. Assumes nothing.
use Rattle.std.proofs.Common.{◌≡◌, ℕ, ◌⊎◌, List, [], ◌∷◌, ◌++◌, length, sym, refl, ap, ◌∙◌, ap₂, inl, inr}
use mathlib.Core.List.Memᴰ
use mathlib.Core.List.{Memᴰ}
use Rattle.diagrams.specs.Kinds.{Kind}
use Rattle.diagrams.specs.Layouts.{Layout}
use Rattle.diagrams.specs.Diagrams.{Diagram}
use Rattle.diagrams.specs.Sheets.{visited, records, header}
use Rattle.diagrams.proofs.Counting.{Within}
use Rattle.histories.specs.Tables.{Model}
use Rattle.histories.specs.Steps.{Fills}
use Rattle.histories.proofs.SheetsAccepted.{outnumber_more}

more_within : (a b : Diagram) (ys xs : List Diagram) → a ≡ b → Within ys xs → Within (a ∷ ys) (b ∷ xs)
more_within a b ys xs e w d m = elim (Memᴰ.cases_cons m) [ inl p ↦ Memᴰ.head (p ∙ e) | inr q ↦ Memᴰ.tail (w d q) ]

-- Two ways to part a list before one of its members are one way, or the one part with its member lies within the other.
two_ways : (xs ys : List Diagram) (x y : Diagram) (s t : List Diagram) → xs ++ (x ∷ s) ≡ ys ++ (y ∷ t)
    → (xs ≡ ys) ⊎ (Within (xs ++ (x ∷ [])) ys ⊎ Within (ys ++ (y ∷ [])) xs)
two_ways [] [] x y s t e = inl refl
two_ways [] (b ∷ ys) x y s t e =
    let same : x ≡ b = cc in inr (inl (λ d m. Memᴰ.head (Memᴰ.eq_of_singleton m ∙ same)))
two_ways (a ∷ xs) [] x y s t e =
    let same : y ≡ a = cc in inr (inr (λ d m. Memᴰ.head (Memᴰ.eq_of_singleton m ∙ same)))
two_ways (a ∷ xs) (b ∷ ys) x y s t e =
    let same : a ≡ b = cc in
    let rest : xs ++ (x ∷ s) ≡ ys ++ (y ∷ t) = cc in
    elim (two_ways xs ys x y s t rest) [
      | inl p ↦ inl (ap₂ ◌∷◌ same p)
      | inr (inl w) ↦ inr (inl (more_within a b (xs ++ (x ∷ [])) ys same w))
      | inr (inr w) ↦ inr (inr (more_within b a (ys ++ (y ∷ [])) xs (sym same) w))
    ]

pub first_full : (K : Kind) (L : Layout) (m : Model) (d : Diagram) (p q : ℕ) → Fills K L m d p → Fills K L m d q → p ≡ q
first_full K L m d p q f g =
    elim (two_ways f.before g.before f.here g.here f.after g.after (sym f.all ∙ g.all)) [
      | inl e ↦ f.place ∙ ap (λ ds. length (header K L ++ records (visited d []) ds)) e ∙ sym g.place
      | inr (inl w) ↦ absurd (g.fits (outnumber_more m _ _ w f.full))
      | inr (inr w) ↦ absurd (f.fits (outnumber_more m _ _ w g.full))
    ]
