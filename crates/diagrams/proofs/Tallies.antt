-- How many numbers below a limit pass a check: the list of them, and whether there is one. Assumes nothing.
use Rattle.std.proofs.Common.{◌≡◌, ℕ, zero, suc, ◌+◌, ◌<◌, ◌≤◌, Bool, true, cond, ltb, ◌↔◌, List, [], ◌∷◌, length, refl, ap, ◌∙◌, inl, inr, add-one, arith}
use mathlib.Core.List.Memᴰ
use mathlib.Core.List.{Memᴰ}
use native.Mathlib.Decide.{ℕ_discrete}
use Rattle.std.proofs.lemmas.Bool.{both_ways, cases_Bool, ltb-true, lt-ltb}
use Rattle.diagrams.specs.Sizes.{Distinct, tally}

pub tally_none : (p : ℕ → Bool) → tally 0 p ≡ 0
unfolding tally
tally_none p = refl

pub tally_more : (n : ℕ) (p : ℕ → Bool) → tally (n + 1) p ≡ tally n p + cond (p n) 1 0
unfolding tally
tally_more n p = rw add-one

-- Checks that agree below the limit pass as many.
pub tally_same : (n : ℕ) (p q : ℕ → Bool) → ((h : ℕ) → h < n → p h ≡ q h) → tally n p ≡ tally n q
unfolding tally
tally_same zero p q same = refl
tally_same (suc n) p q same = rw (tally_same n p q (λ h l. same h (omega arith)), same n (omega arith))

-- The numbers below a limit that pass a check: each once, those and no others, and as many as the tally says.
pub record Passing (n : ℕ) (p : ℕ → Bool) : Type 0 where
  pub all : List ℕ
  pub apart : Distinct all
  pub mem : (h : ℕ) → Memᴰ h all ↔ ((h < n) × (p h ≡ true))
  pub many : length all ≡ tally n p

pub passing : (n : ℕ) (p : ℕ → Bool) → Passing n p
unfolding tally
passing zero p = record {
  all = [];
  apart = tt;
  mem = λ h. (λ q. absurd (Memᴰ.not-nil q), λ q. absurd (omega (arith, q.0)));
  many = refl;
}
passing (suc n) p =
    let r = passing n p in
    elim (cases_Bool (p n)) [
      | inl yes-here ↦ record {
        all = n ∷ r.all;
        apart = (λ q. let u = (r.mem n).0 q in omega (arith, u.0), r.apart);
        mem = λ h. (
          λ q. elim (Memᴰ.cases_cons q) [
            | inl e ↦ (omega arith, ap p e ∙ yes-here)
            | inr t ↦ let u = (r.mem h).0 t in (omega (arith, u.0), u.1)
          ],
          λ q. elim (ℕ_discrete h n) [ yes e ↦ Memᴰ.head e | no e ↦ Memᴰ.tail ((r.mem h).1 (omega (arith, q.0), q.1)) ],
        );
        many = rw yes-here (omega (arith, r.many));
      }
      | inr not-here ↦ record {
        all = r.all;
        apart = r.apart;
        mem = λ h. (
          λ q. let u = (r.mem h).0 q in (omega (arith, u.0), u.1),
          λ q. elim (ℕ_discrete h n) [
            | yes e ↦ absurd (both_ways (p h) (ap p e ∙ not-here) q.1)
            | no e ↦ (r.mem h).1 (omega (arith, q.0), q.1)
          ],
        );
        many = rw not-here (omega (arith, r.many));
      }
    ]

-- No more pass than there are.
pub tally_most : (n : ℕ) (p : ℕ → Bool) → tally n p ≤ n
unfolding tally
tally_most zero p = omega arith
tally_most (suc n) p = elim (cases_Bool (p n)) [ inl e ↦ rw e (omega (arith, tally_most n p)) | inr e ↦ rw e (omega (arith, tally_most n p)) ]

some_member : (hs : List ℕ) → 0 < length hs → (h : ℕ) × Memᴰ h hs
some_member [] l = absurd (omega arith)
some_member (h ∷ hs) l = (h, Memᴰ.head refl)

member_some : (hs : List ℕ) (h : ℕ) → Memᴰ h hs → 0 < length hs
member_some [] h q = absurd (Memᴰ.not-nil q)
member_some (g ∷ hs) h q = omega arith

-- The tally is above 0 exactly where some number passes.
pub tally_some : (n : ℕ) (p : ℕ → Bool) → (ltb 0 (tally n p) ≡ true) ↔ ((h : ℕ) × (h < n) × (p h ≡ true))
tally_some n p =
    let r = passing n p in (
      λ t. let u = some_member r.all (omega (arith, r.many, ltb-true 0 (tally n p) t)) in let v = (r.mem u.0).0 u.1 in (u.0, v.0, v.1),
      λ u. lt-ltb 0 (tally n p) (omega (arith, r.many, member_some r.all u.0 ((r.mem u.0).1 (u.1, u.2)))),
    )
