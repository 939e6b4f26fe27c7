-- A combination that is answered at once: by a shortcut, or by the store. Assumes nothing.
use Rattle.std.proofs.Common.{◌≡◌, ℕ, true, [], Some, Option, sym, refl, ap, ◌∙◌, subst, arith}
use mathlib.Core.Option.{some}
use Rattle.diagrams.specs.Kinds.{Kind}
use Rattle.diagrams.specs.Layouts.{Layout}
use Rattle.diagrams.specs.Diagrams.{Lawful, Diagram, leaf, Good}
use Rattle.diagrams.specs.Tasks.{Operation, combine, result}
use Rattle.diagrams.specs.Building.{quick, smaller_of, is_short, smaller, shortcut}
use Rattle.diagrams.specs.Places.{leaf_word, Stands}
use Rattle.diagrams.proofs.Composing.{way_to_combine, Right, right}
use Rattle.diagrams.proofs.Results.{answer_good}
use Rattle.histories.specs.Stores.{Key, Entries}
use Rattle.histories.specs.Tables.{Phase}
use Rattle.histories.specs.Steps.{Keyed}
use Rattle.histories.proofs.Sound.{Sound}
use Rattle.histories.proofs.Standing.{stands_good}
use Rattle.places.specs.declared.places.Places.{Places}
use Rattle.places.specs.Tables.{holds, Under, Filling, Trusted}
use Rattle.places.proofs.Extending.{stays, filling_extends}
use Rattle.building.specs.declared.quick.Answer.{Answer}
use Rattle.building.specs.declared.quick.Answer.TheVariants.{Handle, Value}
use Rattle.building.specs.Work.{model}
use Rattle.building.specs.Operations.{combine_key}
use Rattle.building.specs.Shortcuts.{floor, Rooted, Quickly}
use Rattle.building.specs.Calls.{Combined, Known}
use Rattle.building.proofs.Seeing.{seen_stands}
use Rattle.building.proofs.Shortening.{depth_most}
use Rattle.building.proofs.Finishing.{filling_inside, sound_zero, sound_one, none_held, put_there, put_leaf, finished_short, found_answered}

pub rooted : {K : Kind} {L : Layout} (f : Entries) (p : Phase) (t : Places) → Sound K L (model L f p t) → Rooted K t
rooted f p t s = record { zero = sound_zero f p t s; one = sound_one f p t s }

-- A handle of a sound table stands for a good diagram.
pub good_of : {K : Kind} {L : Layout} (f : Entries) (p : Phase) (t : Places) → Sound K L (model L f p t) → (d : Diagram) (h : ℕ) → Stands (holds t) d h → Good K L 0 d
good_of {L = L} f p t s d h q = stands_good (model L f p t) s d h (seen_stands L f p t d h q)

-- The key of two handles combined is that of their diagrams.
pub combine_keyed : (L : Layout) (f : Entries) (p : Phase) (t : Places) (o : Operation) (d e : Diagram) (a b : ℕ) → Stands (holds t) d a → Stands (holds t) e b
    → Keyed (model L f p t) (combine o d e) (combine_key o a b)
combine_keyed L f p t o d e a b sd se = (a, b, seen_stands L f p t d a sd, seen_stands L f p t e b se, refl)

-- A shortcut.
module _ {K : Kind} {L : Layout} (ok : Lawful K L) (o : Operation) (d e x : Diagram) (q : quick K o d e ≡ some x) where
  short_result : Good K L 0 d → Good K L 0 e → x ≡ result K L (combine o d e)
  short_result gd ge = subst (Right ok o d e) q (right ok o d e gd ge)

  short_shortcut : shortcut K L (combine o d e) ≡ true
  short_shortcut = ap (λ s. is_short (way_to_combine K L o d e s)) q

  short_smaller : smaller K L (combine o d e) ≡ []
  short_smaller = ap (λ s. smaller_of (way_to_combine K L o d e s)) q

module _ {K : Kind} {L : Layout} {o : Operation} {a b : ℕ} {t : Places} {f : Entries} where
  pub handle_combined : {h : ℕ} → Quickly K t o a b (Some (Handle h)) → Combined K L o a b t t f f (Some h)
  handle_combined {h} q = record {
    kept = stays t;
    inside = q.safe;
    done = λ ok d e sd se p sound.
        let s = q.short (rooted f p t sound) d e sd se in
        let same = short_result ok o d e s.0 s.1 (good_of f p t sound d a sd) (good_of f p t sound e b se) in
        finished_short K L (combine o d e) f p t sound t (combine_key o a b) (short_shortcut ok o d e s.0 s.1)
        (none_held K L (combine o d e) (short_smaller ok o d e s.0 s.1) t) (Some h)
        (put_there K L (combine o d e) f p t sound h (subst (λ x. Stands (holds t) x h) same s.2));
  }

  pub value_combined : {u : Places} {v : ℕ} {r : Option ℕ} → Quickly K t o a b (Some (Value v)) → Filling t u (leaf_word v) r → Combined K L o a b t u f f r
  value_combined {u} {v} {r} q n = record {
    kept = filling_extends t u (leaf_word v) r n;
    inside = filling_inside t u (leaf_word v) (floor t a b) r refl (omega (arith, depth_most t a)) n;
    done = λ ok d e sd se p sound.
        let s = q.short (rooted f p t sound) d e sd se in
        let gd = good_of f p t sound d a sd in
        let ge = good_of f p t sound e b se in
        let same = short_result ok o d e (leaf v) s gd ge in
        finished_short K L (combine o d e) f p t sound u (combine_key o a b) (short_shortcut ok o d e (leaf v) s)
        (none_held K L (combine o d e) (short_smaller ok o d e (leaf v) s) t) r
        (put_leaf K L (combine o d e) f p t sound u v same (subst (Good K L 0) (sym same) (answer_good ok 0 (combine o d e) (gd, ge) (omega arith))) r n);
  }

  -- The store has the answer.
  pub hit_combined : {h : ℕ} → Under t (floor t a b) h → f (combine_key o a b) ≡ Some h → Combined K L o a b t t f f (Some h)
  hit_combined {h} under found = record {
    kept = stays t;
    inside = under;
    done = λ ok d e sd se p sound.
        found_answered (model L f p t) (combine o d e) (combine_key o a b) h sound (good_of f p t sound d a sd, good_of f p t sound e b se)
        (combine_keyed L f p t o d e a b sd se) found;
  }

-- A shortcut is known.
pub short_known : {K : Kind} {o : Operation} {a b : ℕ} {t : Places} (f : Entries) (r : Answer) → Quickly K t o a b (Some r) → Known K o a b t f (Some r)
short_known f (Handle h) q = λ L. handle_combined q
short_known f (Value v) q = q

-- What the store is asked under the key and answers, it knows, if its answer is trusted.
pub stored_known : {K : Kind} {o : Operation} {a b l h : ℕ} {t : Places} (f : Entries) {k : Key} {r : Option ℕ} → l ≡ floor t a b → k ≡ combine_key o a b
    → r ≡ f k → Trusted t l r (Some h) → Known K o a b t f (Some (Handle h))
stored_known {h = h} {t = t} f level keyed asked found L =
    hit_combined (subst (λ l. Under t l h) level found.1) (ap f (sym keyed) ∙ sym asked ∙ found.0)
