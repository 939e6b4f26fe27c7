-- A table as it is made is sound. Assumes nothing.
use Rattle.std.proofs.Common.{◌≡◌, ℕ, zero, suc, ◌≤◌, Some, None, Option, sym, refl, ap, ◌∙◌, inl, inr, arith}
use Rattle.diagrams.specs.Kinds.{Kind}
use Rattle.diagrams.specs.Layouts.{Layout}
use Rattle.diagrams.specs.Diagrams.{Lawful, Diagram, leaf, Good}
use Rattle.diagrams.specs.Places.{free, leaf_word, Place, Unshared}
use Rattle.histories.specs.Tables.{Model, content, count, Live, StandsFor, Made}
use Rattle.histories.proofs.Sound.{Sound}

-- An answer that there is none is not one that there is.
pub none_some : {A : Type 0} {x : A} → ◌≡◌ {A = Option A} None (Some x) → ⊥
none_some e = let z : ◌≡◌ {A = ℕ} 0 1 = cc in omega arith

module _ {K : Kind} {L : Layout} (m : Model) (c : ℕ) (made : Made K L c m) where
  zero_is : content m 0 ≡ leaf_word K.zero
  zero_is = ap (λ (p : Place). p.content) made.zero

  one_is : content m 1 ≡ leaf_word K.one
  one_is = ap (λ (p : Place). p.content) made.one

  rest_is : (h : ℕ) → 2 ≤ h → content m h ≡ free
  rest_is h l = ap (λ (p : Place). p.content) (made.rest h l)

  -- No handle is held yet.
  pub made_counts : (h : ℕ) → count m h ≡ 0
  made_counts zero = ap (λ (p : Place). p.count) made.zero
  made_counts (suc zero) = ap (λ (p : Place). p.count) made.one
  made_counts (suc (suc h)) = ap (λ (p : Place). p.count) (made.rest (suc (suc h)) (omega arith))

  module _ (ok : Lawful K L) where
    good : (h : ℕ) → Live m h → (d : Diagram) × Good K L 0 d × StandsFor m d h
    good zero l = (leaf K.zero, ok.laws.arithmetic.zero_value, zero_is)
    good (suc zero) l = (leaf K.one, ok.laws.arithmetic.one_value, one_is)
    good (suc (suc h)) l = absurd (l (rest_is (suc (suc h)) (omega arith)))

    differ : content m 0 ≡ content m 1 → ⊥
    differ e =
        let two : leaf_word K.zero ≡ leaf_word K.one = sym zero_is ∙ e ∙ one_is in
        let same : K.zero ≡ K.one = cc in
        ok.laws.arithmetic.apart same

    unshared : Unshared (content m)
    unshared (suc (suc g)) h e = inl (rest_is (suc (suc g)) (omega arith))
    unshared zero zero e = inr refl
    unshared zero (suc zero) e = absurd (differ e)
    unshared zero (suc (suc h)) e = inl (e ∙ rest_is (suc (suc h)) (omega arith))
    unshared (suc zero) zero e = absurd (differ (sym e))
    unshared (suc zero) (suc zero) e = inr refl
    unshared (suc zero) (suc (suc h)) e = inl (e ∙ rest_is (suc (suc h)) (omega arith))

    pub made_sound : Sound K L m
    made_sound = record {
      least = omega (arith, made.room, made.range.0);
      most = omega (arith, made.room, made.range.1);
      zero = zero_is;
      one = one_is;
      good = good;
      unshared = unshared;
      unheld = λ h _. made_counts h;
      right = λ k h e. absurd (none_some (sym (made.entries k) ∙ e));
    }
