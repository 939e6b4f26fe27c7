-- Marks of what is kept, and freeing the rest. Assumes nothing.
use Rattle.std.proofs.Common.{◌≡◌, ℕ, ◌<◌, false, ◌⊎◌, List, get_or, refl, ap, ◌∙◌, inl, inr, ⊎_elim, arith}
use Rattle.std.proofs.lemmas.Bool.{cases_eq, cases_Bool, both_ways}
use Rattle.diagrams.specs.Places.{vacant, from_zero, from_one, to_low, to_high}
use Rattle.places.specs.declared.places.Places.{Places}
use Rattle.places.specs.Contents.{in_use}
use Rattle.places.specs.Tables.{place, holds, Used}
use Rattle.places.specs.Keeping.{Keeps, Freed}
use Rattle.places.proofs.Extending.{unused_vacant}
use Rattle.walks.specs.Walks.{Kept, KeptMarked, Swept}
use Rattle.walks.proofs.Rooting.{kept_used}

module _ (t : Places) (marks : List ℕ) (marked : KeptMarked t marks) where
  kept_mark : (h : ℕ) → Kept t h → 0 < get_or marks h 0
  kept_mark h k = (marked h (kept_used t h k)).1 k

  pub marked_keeps : Keeps t marks
  marked_keeps = record {
    zero = kept_mark 0 (from_zero refl);
    one = kept_mark 1 (from_one refl);
    children = λ h l x y e m. let k = (marked h (ap in_use e)).0 m in (kept_mark x (to_low k e), kept_mark y (to_high k e));
  }

  pub freed_swept : (after : Places) (freed : ℕ) → Freed t after marks freed → Swept t after freed
  freed_swept after freed f = record {
    room = f.room;
    each = λ h. ⊎_elim (used h) (unused h) (cases_Bool (in_use (holds t h)));
    many = f.many;
  }
    where
      SweptAt : ℕ → Type 0
      SweptAt h = (Kept t h × (place after h ≡ place t h)) ⊎ ((Kept t h → ⊥) × (place after h ≡ vacant))

      -- A place in use stays just where it has a mark.
      used : (h : ℕ) → Used t h → SweptAt h
      used h u =
          ⊎_elim (λ (e : get_or marks h 0 ≡ 0). inr (λ k. omega (arith, kept_mark h k), f.gone h e))
          (λ (n : get_or marks h 0 ≡ 0 → ⊥). let m : 0 < get_or marks h 0 = omega arith in inl ((marked h u).0 m, f.kept h m)) (cases_eq (get_or marks h 0) 0)

      -- A place that is not in use is free before and after.
      unused : (h : ℕ) → in_use (holds t h) ≡ false → SweptAt h
      unused h n =
          inr (
            λ k. both_ways (in_use (holds t h)) n (kept_used t h k),
            ⊎_elim (λ (e : get_or marks h 0 ≡ 0). f.gone h e)
                (λ (m : get_or marks h 0 ≡ 0 → ⊥). f.kept h (omega arith) ∙ unused_vacant t h n) (cases_eq (get_or marks h 0) 0),
          )
