-- Lists of different things: one that lies within another is no longer. Assumes nothing.
use Rattle.std.proofs.Common.{◌≡◌, ℕ, suc, ◌≤◌, ◌⊎◌, List, [], ◌∷◌, length, sym, refl, ap, ◌∙◌, inl, inr, arith}
use mathlib.Core.List.Memᴰ
use mathlib.Core.List.{Memᴰ}
use Rattle.diagrams.specs.Sizes.{Distinct}
use Rattle.histories.specs.Tables.{Exactly}

module _ {A : Type 0} where
  -- A list with x taken out once.
  record Rest (x : A) (xs : List A) : Type 0 where
    rest : List A
    shorter : length xs ≡ suc (length rest)
    others : (z : A) → Memᴰ z xs → (z ≡ x) ⊎ Memᴰ z rest

  take_out : (x : A) (xs : List A) → Memᴰ x xs → Rest x xs
  take_out x [] m = absurd (Memᴰ.not-nil m)
  take_out x (y ∷ ys) (Memᴰ.head e) = record {
    rest = ys;
    shorter = refl;
    others = λ z m. elim (Memᴰ.cases_cons m) [ inl p ↦ inl (p ∙ sym e) | inr q ↦ inr q ];
  }
  take_out x (y ∷ ys) (Memᴰ.tail m) =
      let r = take_out x ys m in record {
        rest = y ∷ r.rest;
        shorter = ap suc r.shorter;
        others = λ z n. elim (Memᴰ.cases_cons n) [
          | inl p ↦ inr (Memᴰ.head p)
          | inr q ↦ elim (r.others z q) [ inl e ↦ inl e | inr t ↦ inr (Memᴰ.tail t) ]
        ];
      }

  pub distinct_within : (ys xs : List A) → Distinct ys → ((z : A) → Memᴰ z ys → Memᴰ z xs) → length ys ≤ length xs
  distinct_within [] xs apart within = omega arith
  distinct_within (y ∷ ys) xs apart within =
      let r = take_out y xs (within y (Memᴰ.head refl)) in
      let few : length ys ≤ length r.rest =
      distinct_within ys r.rest apart.1
      (λ z m. elim (r.others z (within z (Memᴰ.tail m))) [ inl e ↦ absurd (apart.0 (Memᴰ.cast (sym e) m)) | inr t ↦ t ]) in
      omega (arith, r.shorter, few)

-- Of one property there is one number.
pub exactly_one : (P : ℕ → Type 0) (x y : ℕ) → Exactly x P → Exactly y P → x ≡ y
exactly_one P x y p q =
    let less = distinct_within p.0 q.0 p.1 (λ h m. (q.2 h).1 ((p.2 h).0 m)) in
    let more = distinct_within q.0 p.0 q.1 (λ h m. (p.2 h).1 ((q.2 h).0 m)) in
    omega (arith, less, more, p.3, q.3)
