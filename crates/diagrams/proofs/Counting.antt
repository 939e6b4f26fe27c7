-- How many different diagrams a list holds. Assumes nothing.
use Rattle.std.proofs.Common.{◌≡◌, suc, ◌≤◌, List, [], ◌∷◌, length, sym, refl, ap, inl, inr, arith}
use mathlib.Core.List.Memᴰ
use mathlib.Core.List.{Memᴰ}
use Rattle.diagrams.specs.Diagrams.{Diagram, same}
use Rattle.diagrams.specs.Sizes.{among, once, different, Distinct}

-- What stands in the one list stands in the other.
abbrev pub Within : List Diagram → List Diagram → Type 0
Within ys xs = (d : Diagram) → Memᴰ d ys → Memᴰ d xs

pub once_within : (ds : List Diagram) → Within (once ds) ds
once_within [] = λ d m. m
once_within (e ∷ es) =
    elim (among e es) as (λ s. Within (elim s [ yes _ ↦ once es | no _ ↦ e ∷ once es ]) (e ∷ es)) [
      | yes _ ↦ λ d m. Memᴰ.tail (once_within es d m)
      | no _ ↦ λ d m. elim (Memᴰ.cases_cons m) [ inl p ↦ Memᴰ.head p | inr q ↦ Memᴰ.tail (once_within es d q) ]
    ]

pub within_once : (ds : List Diagram) → Within ds (once ds)
within_once [] = λ d m. m
within_once (e ∷ es) =
    elim (among e es) as (λ s. Within (e ∷ es) (elim s [ yes _ ↦ once es | no _ ↦ e ∷ once es ])) [
      | yes h ↦ λ d m. elim (Memᴰ.cases_cons m) [ inl p ↦ within_once es d (Memᴰ.cast p h) | inr q ↦ within_once es d q ]
      | no _ ↦ λ d m. elim (Memᴰ.cases_cons m) [ inl p ↦ Memᴰ.head p | inr q ↦ Memᴰ.tail (within_once es d q) ]
    ]

pub once_distinct : (ds : List Diagram) → Distinct (once ds)
once_distinct [] = tt
once_distinct (e ∷ es) =
    elim (among e es) as (λ s. Distinct (elim s [ yes _ ↦ once es | no _ ↦ e ∷ once es ]))
    [ yes _ ↦ once_distinct es | no n ↦ (λ m. n (once_within es e m), once_distinct es) ]

-- A list without d.
without : Diagram → List Diagram → List Diagram
without d [] = []
without d (e ∷ es) = elim (same d e) [ yes _ ↦ without d es | no _ ↦ e ∷ without d es ]

without_within : (d : Diagram) (es : List Diagram) → Within (without d es) es
unfolding without
without_within d [] = λ x m. m
without_within d (e ∷ es) =
    elim (same d e) as (λ s. Within (elim s [ yes _ ↦ without d es | no _ ↦ e ∷ without d es ]) (e ∷ es)) [
      | yes _ ↦ λ x m. Memᴰ.tail (without_within d es x m)
      | no _ ↦ λ x m. elim (Memᴰ.cases_cons m) [ inl p ↦ Memᴰ.head p | inr q ↦ Memᴰ.tail (without_within d es x q) ]
    ]

without_apart : (d : Diagram) (es : List Diagram) → ¬ Memᴰ d (without d es)
unfolding without
without_apart d [] = Memᴰ.not-nil
without_apart d (e ∷ es) =
    elim (same d e) as (λ s. ¬ Memᴰ d (elim s [ yes _ ↦ without d es | no _ ↦ e ∷ without d es ])) [
      | yes _ ↦ without_apart d es
      | no n ↦ λ m. elim (Memᴰ.cases_cons m) [ inl p ↦ n p | inr q ↦ without_apart d es q ]
    ]

without_distinct : (d : Diagram) (es : List Diagram) → Distinct es → Distinct (without d es)
unfolding without
without_distinct d [] h = tt
without_distinct d (e ∷ es) h =
    elim (same d e) as (λ s. Distinct (elim s [ yes _ ↦ without d es | no _ ↦ e ∷ without d es ]))
    [ yes _ ↦ without_distinct d es h.1 | no _ ↦ (λ m. h.0 (without_within d es e m), without_distinct d es h.1) ]

without_none : (d : Diagram) (es : List Diagram) → ¬ Memᴰ d es → without d es ≡ es
unfolding without
without_none d [] h = refl
without_none d (e ∷ es) h =
    elim (same d e) as (λ s. elim s [ yes _ ↦ without d es | no _ ↦ e ∷ without d es ] ≡ e ∷ es)
    [ yes p ↦ absurd (h (Memᴰ.head p)) | no _ ↦ ap (λ t. e ∷ t) (without_none d es (λ m. h (Memᴰ.tail m))) ]

without_length : (d : Diagram) (es : List Diagram) → Distinct es → length es ≤ suc (length (without d es))
unfolding without
without_length d [] h = omega arith
without_length d (e ∷ es) h =
    elim (same d e) as (λ s. length (e ∷ es) ≤ suc (length {A = Diagram} (elim s [ yes _ ↦ without d es | no _ ↦ e ∷ without d es ]))) [
      | yes p ↦ rw (without_none d es (λ m. h.0 (Memᴰ.cast (sym p) m))) (omega arith)
      | no _ ↦ omega (arith, without_length d es h.1)
    ]

-- Distinct diagrams that all stand in xs are no more than xs has different ones.
pub at_most : (xs ys : List Diagram) → Distinct ys → Within ys xs → length ys ≤ different xs
at_most [] [] h w = omega arith
at_most [] (y ∷ ys) h w = absurd (Memᴰ.not-nil (w y (Memᴰ.head refl)))
at_most (x ∷ xs) ys h w =
    elim (among x xs) as (λ s. length ys ≤ length {A = Diagram} (elim s [ yes _ ↦ once xs | no _ ↦ x ∷ once xs ])) [
      | yes m ↦ at_most xs ys h (λ d q. elim (Memᴰ.cases_cons (w d q)) [ inl p ↦ Memᴰ.cast p m | inr r ↦ r ])
      | no _ ↦ omega (arith, without_length x ys h, at_most xs (without x ys) (without_distinct x ys h) kept)
    ]
  where
    kept : Within (without x ys) xs
    kept d q =
        elim (Memᴰ.cases_cons (w d (without_within x ys d q)))
        [ inl p ↦ absurd (without_apart x ys (Memᴰ.cast (sym p) q)) | inr r ↦ r ]

once_length : (ds : List Diagram) → different ds ≤ length ds
once_length [] = omega arith
once_length (e ∷ es) =
    elim (among e es) as (λ s. length {A = Diagram} (elim s [ yes _ ↦ once es | no _ ↦ e ∷ once es ]) ≤ length (e ∷ es))
    [ yes _ ↦ omega (arith, once_length es) | no _ ↦ omega (arith, once_length es) ]

-- And as many, where they are all of xs.
pub as_many : (xs ys : List Diagram) → Distinct ys → Within ys xs → Within xs ys → length ys ≡ different xs
as_many xs ys h w v = omega (arith, at_most xs ys h w, at_most ys (once xs) (once_distinct xs) (λ d m. v d (once_within xs d m)), once_length ys)
