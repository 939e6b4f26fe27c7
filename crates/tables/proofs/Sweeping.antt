-- Sweeping takes its step. Assumes nothing.
use Rattle.std.proofs.Common.{◌≡◌, ℕ, Bool, true, not, ◌&&◌, ◌⊎◌, ◌↔◌, List, [], Ok, Err, Result, sym, refl, ap, ◌∙◌, subst, inl, inr, arith}
use mathlib.Core.Path.{fun_ext}
use Rattle.std.proofs.lemmas.Bool.{and_parts, and_from, false≢true}
use Rattle.diagrams.specs.Kinds.{Kind}
use Rattle.diagrams.specs.Layouts.{Layout as Plan}
use Rattle.diagrams.specs.Sizes.{tally}
use Rattle.diagrams.specs.Places
use Rattle.diagrams.specs.Places.{Place}
use Rattle.histories.specs.Stores.{Entries, Forgotten}
use Rattle.histories.specs.Tables
use Rattle.histories.specs.Tables.{opened, Model, content, count, Live, Exactly}
use Rattle.histories.specs.Requests.{sweep}
use Rattle.histories.specs.Steps
use Rattle.histories.specs.Steps.{wiped, Reached, Step}
use Rattle.histories.proofs.Sound.{Sound}
use Rattle.histories.proofs.Faults.{passes, is_due}
use Rattle.histories.proofs.Reaching.{counts_right, count_told, over_places, on_table}
use Rattle.refusals.specs.declared.refusal.Refusal.{Refusal}
use Rattle.refusals.specs.declared.refusal.Refusal.TheVariants.{WalkTooShort}
use Rattle.places.specs.declared.places.Places.{Places as Table}
use Rattle.places.specs.Contents.{in_use}
use Rattle.places.specs.Tables.{place, holds, Used}
use Rattle.walks.specs.Walks.{Kept, Swept, Sweeping}
use Rattle.building.specs.Work.{model}
use Rattle.building.proofs.Seeing.{seen_room, seen_place, seen_all, seen_live, live_seen}
use Rattle.layouts.specs.View.{view}
use Rattle.tables.specs.declared.open.Open.{Open}
use Rattle.tables.specs.Models.{open_model, asked, answered}
use Rattle.tables.specs.Sweeping.{Cleaned}
use Rattle.tables.proofs.Lending.{seen_wiped, too_short, long_enough}
use Rattle.tables.proofs.Refusing.{refused_as}

module _ (K : Kind) (L : Plan) (f : Entries) (t : Table) where
  abbrev m : Model
  m = model L f opened t

  seen_counts : count m ≡ (λ h. (place t h).count)
  seen_counts = fun_ext (λ h. ap (λ (q : Place). q.count) (seen_place L f opened t h))

  -- What is kept in the code is what is reached in the specification.
  kept_reached : (h : ℕ) → Kept t h → Reached m h
  kept_reached h kept =
      on_table m h
      (subst (λ c. Places.Reached (content m) c h) (sym seen_counts)
      (subst (λ at. Places.Reached at (λ g. (place t g).count) h) (sym (seen_all L f opened t)) kept))

  reached_kept : (h : ℕ) → Reached m h → Kept t h
  reached_kept h reached =
      subst (λ at. Places.Reached at (λ g. (place t g).count) h) (seen_all L f opened t)
      (subst (λ c. Places.Reached (content m) c h) seen_counts (over_places m h reached))

  module _ (u : Table) (g : Entries) (x : ℕ) (swept : Swept t u x) where
    -- What a sweep does to each place.
    abbrev Each : ℕ → Type 0
    Each h = (Kept t h × (place u h ≡ place t h)) ⊎ ((Kept t h → ⊥) × (place u h ≡ Places.vacant))

    -- Whether the place of a handle was in use and is free.
    abbrev lost : ℕ → Bool
    lost h = in_use (holds t h) && not (in_use (holds u h))

    now_holds : (h : ℕ) → (p : Place) → place u h ≡ p → holds u h ≡ p.content
    now_holds h p same = ap (λ (q : Place). q.content) same

    -- What was in use and is free was not kept, and the other way round.
    lost_told : (h : ℕ) → (lost h ≡ true) ↔ (Live m h × (¬ Reached m h))
    lost_told h = (
      λ e. let both = and_parts (in_use (holds t h)) _ e in (seen_live L f opened t h both.0, λ reached. gone both.0 both.1 reached (swept.each h)),
      λ both. and_from (in_use (holds t h)) _ (live_seen L f opened t h both.0) (freed both.1 (swept.each h)),
    )
      where
        gone : Used t h → not (in_use (holds u h)) ≡ true → Reached m h → Each h → ⊥
        gone used out reached (inl stays) =
            false≢true (subst (λ b. not b ≡ true) (ap in_use (now_holds h (place t h) stays.1) ∙ used) out)
        gone used out reached (inr goes) = goes.0 (reached_kept h reached)

        freed : (¬ Reached m h) → Each h → not (in_use (holds u h)) ≡ true
        freed out (inl stays) = absurd (out (kept_reached h stays.0))
        freed out (inr goes) = ap (λ c. not (in_use c)) (now_holds h Places.vacant goes.1)

    seen_swept : Sound K L m → Forgotten g → Steps.Swept m x (model L g opened u)
    seen_swept sound none = record {
      room = seen_room L g opened u ∙ swept.room ∙ sym (seen_room L f opened t);
      each = λ h. each h (swept.each h);
      freed =
          subst (λ x'. Exactly x' (λ h. Live m h × (¬ Reached m h)))
          (sym (swept.many ∙ ap (λ c. tally c lost) (sym (seen_room L f opened t)) ∙ count_told m sound refl lost (λ h _. lost_told h)))
          (counts_right m sound refl).unreached;
      entries = none;
    }
      where
        each : (h : ℕ) → Each h
            → (Reached m h × (Tables.place (model L g opened u) h ≡ Tables.place m h)) ⊎ ((¬ Reached m h) × (Tables.place (model L g opened u) h ≡ Places.vacant))
        each h (inl stays) = inl (kept_reached h stays.0, seen_place L g opened u h ∙ stays.1 ∙ sym (seen_place L f opened t h))
        each h (inr goes) = inr (λ reached. goes.0 (reached_kept h reached), seen_place L g opened u h ∙ goes.1)

  module _ (walk left : List ℕ) (list : left ≡ wiped t.capacity walk) where
    -- The store has forgotten.
    swept_step : (u : Table) (g : Entries) (x : ℕ) → Sound K L m → Forgotten g → Sweeping t u walk (Ok x)
        → Step K L m (asked sweep walk []) (answered (Ok x) left []) (model L g opened u)
    swept_step u g x sound none done = record {
      takes = refl;
      lent = refl;
      layout = refl;
      walk = seen_wiped L f opened t walk left list;
      outcome = inl (record {
        faultless = (passes (long_enough L f opened t walk done.0), tt);
        phase = refl;
        does = (x, (refl, refl), seen_swept u g x done.1 sound none);
      });
    }

    sweep_short : (u : Table) (e : Refusal) → Sweeping t u walk (Err e) → Step K L m (asked sweep walk []) (answered (Err e) left []) (model L f opened u)
    sweep_short u e short =
        subst (λ v. Step K L m (asked sweep walk []) (answered (Err e) left []) (model L f opened v)) (sym short.2)
        (refused_as K L m (asked sweep walk []) e WalkTooShort short.0 left refl refl (seen_wiped L f opened t walk left list)
        (inl (is_due (too_short L f opened t walk short.1))) (λ n. omega arith))

-- The call of the code.
module _ {V S : Type 0} (K : Kind) (entries : S → Entries) (before after : Open V S) (walk left : List ℕ) where
  abbrev plan : Plan
  plan = view before.layout

  -- By the layout of the table that is left, which is that of the table before.
  by_layout : (r : Result ℕ Refusal) → after.layout ≡ before.layout
      → Step K plan (open_model entries before) (asked sweep walk []) (answered r left []) (model plan (entries after.store) opened after.places)
      → Step K plan (open_model entries before) (asked sweep walk []) (answered r left []) (open_model entries after)
  by_layout r same step =
      subst (λ y. Step K plan (open_model entries before) (asked sweep walk []) (answered r left []) (model (view y) (entries after.store) opened after.places)) (sym same) step

  pub cleaned_step : (r : Result ℕ Refusal) → Sound K plan (open_model entries before) → left ≡ wiped before.places.capacity walk → Cleaned entries before after walk r
      → Step K plan (open_model entries before) (asked sweep walk []) (answered r left []) (open_model entries after)
  cleaned_step (Ok x) sound list done =
      by_layout (Ok x) done.layout
      (swept_step K plan (entries before.store) before.places walk left list after.places (entries after.store) x sound done.store done.places)
  cleaned_step (Err e) sound list done =
      by_layout (Err e) done.layout
      (subst (λ s. Step K plan (open_model entries before) (asked sweep walk []) (answered (Err e) left []) (model plan (entries s) opened after.places)) (sym done.store)
      (sweep_short K plan (entries before.store) before.places walk left list after.places e done.places))
