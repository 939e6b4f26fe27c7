-- Holding and letting go take their steps. Assumes nothing.
use Rattle.std.proofs.Common.{◌≡◌, ℕ, ◌+◌, [], Some, None, Ok, Err, Option, Result, sym, refl, ap, ◌∙◌, subst, inl, inr, arith}
use Rattle.std.specs.Option.{ok_or}
use Rattle.diagrams.specs.Kinds.{Kind}
use Rattle.diagrams.specs.Layouts.{Layout as Plan}
use Rattle.diagrams.specs.Places.{Place}
use Rattle.histories.specs.Stores.{Entries}
use Rattle.histories.specs.Tables.{opened, Model, count, Live}
use Rattle.histories.specs.Requests.{hold, let_go}
use Rattle.histories.specs.Steps
use Rattle.histories.specs.Steps.{Step}
use Rattle.histories.proofs.Faults.{passes, is_due}
use Rattle.refusals.specs.declared.refusal.Refusal.{Refusal}
use Rattle.refusals.specs.declared.refusal.Refusal.TheVariants.{NotLive, HoldLimit, NotHeld}
use Rattle.places.specs.declared.places.Places.{Places}
use Rattle.places.specs.Tables.{place, Used}
use Rattle.places.specs.Keeping.{Counted, Holding, LettingGo}
use Rattle.building.specs.Work.{model}
use Rattle.building.proofs.Seeing.{seen_room, seen_place, seen_content, seen_live}
use Rattle.tables.specs.Models.{plain, gave}
use Rattle.tables.proofs.Refusing.{refused_step, refused_as, dead_free}

module _ (K : Kind) (L : Plan) (f : Entries) (t : Places) (h : ℕ) where
  abbrev m : Model
  m = model L f opened t

  seen_count : count m h ≡ (place t h).count
  seen_count = ap (λ (q : Place). q.count) (seen_place L f opened t h)

  -- The places of the code and of the specification are counted alike.
  seen_counted : (u : Places) (x : ℕ) → Counted t u h x → Steps.Counted m h x (model L f opened u)
  seen_counted u x c = record {
    room = seen_room L f opened u ∙ c.room ∙ sym (seen_room L f opened t);
    here = seen_place L f opened u h ∙ c.here ∙ ap (λ y. record { content = y; count = x }) (sym (seen_content L f opened t h));
    elsewhere = λ g other. seen_place L f opened u g ∙ c.elsewhere g other ∙ sym (seen_place L f opened t g);
    entries = λ k. refl;
  }

  pub hold_dead : (e : Refusal) → (e ≡ NotLive) × (Used t h → ⊥) → Step K L m (plain (hold h)) (gave (Err e)) m
  hold_dead e dead =
      refused_as K L m (plain (hold h)) e NotLive dead.0 [] refl (refl, refl) refl (inl (is_due (dead_free L f opened t h dead.1))) (λ n. omega arith)

  pub let_go_dead : (e : Refusal) → (e ≡ NotLive) × (Used t h → ⊥) → Step K L m (plain (let_go h)) (gave (Err e)) m
  let_go_dead e dead =
      refused_as K L m (plain (let_go h)) e NotLive dead.0 [] refl (refl, refl) refl (inl (is_due (dead_free L f opened t h dead.1))) (λ n. omega arith)

  -- By the place of the handle, and the count as it is answered.
  module _ (at : ℕ) (found : (at ≡ h) × Used t h) (u : Places) where
    live : Live m h
    live = seen_live L f opened t h found.1

    pub hold_limit : Holding t u at None → Step K L m (plain (hold h)) (gave (Err HoldLimit)) (model L f opened u)
    hold_limit done =
        let full : Holding t u h None = subst (λ g. Holding t u g None) found.0 done in
        subst (λ v. Step K L m (plain (hold h)) (gave (Err HoldLimit)) (model L f opened v)) (sym full.1)
        (refused_step K L m (plain (hold h)) HoldLimit [] refl (refl, refl) refl (inr (passes live, inl (is_due (seen_count ∙ full.0)))) (λ e. omega arith))

    pub hold_more : (x : ℕ) → Holding t u at (Some x) → Step K L m (plain (hold h)) (gave (Ok x)) (model L f opened u)
    hold_more x done =
        let more : Holding t u h (Some x) = subst (λ g. Holding t u g (Some x)) found.0 done in
        record {
          takes = refl;
          lent = (refl, refl);
          layout = refl;
          walk = refl;
          outcome = inl (record {
            faultless = (passes live, (passes (λ full. omega (arith, seen_count, more.0)), tt));
            phase = refl;
            does = (x, (refl, refl), seen_counted u x more.2, more.1 ∙ ap (λ n. n + 1) (sym seen_count));
          });
        }

    -- By the new count, and the answer that it becomes.
    pub hold_step : (r : Option ℕ) (answer : Result ℕ Refusal) → answer ≡ ok_or r HoldLimit → Holding t u at r
        → Step K L m (plain (hold h)) (gave answer) (model L f opened u)
    hold_step None answer is done = subst (λ a. Step K L m (plain (hold h)) (gave a) (model L f opened u)) (sym is) (hold_limit done)
    hold_step (Some x) answer is done = subst (λ a. Step K L m (plain (hold h)) (gave a) (model L f opened u)) (sym is) (hold_more x done)

    pub let_go_unheld : LettingGo t u at None → Step K L m (plain (let_go h)) (gave (Err NotHeld)) (model L f opened u)
    let_go_unheld done =
        let none : LettingGo t u h None = subst (λ g. LettingGo t u g None) found.0 done in
        subst (λ v. Step K L m (plain (let_go h)) (gave (Err NotHeld)) (model L f opened v)) (sym none.1)
        (refused_step K L m (plain (let_go h)) NotHeld [] refl (refl, refl) refl (inr (passes live, inl (is_due (seen_count ∙ none.0)))) (λ e. omega arith))

    pub let_go_less : (x : ℕ) → LettingGo t u at (Some x) → Step K L m (plain (let_go h)) (gave (Ok x)) (model L f opened u)
    let_go_less x done =
        let less : LettingGo t u h (Some x) = subst (λ g. LettingGo t u g (Some x)) found.0 done in
        record {
          takes = refl;
          lent = (refl, refl);
          layout = refl;
          walk = refl;
          outcome = inl (record {
            faultless = (passes live, (passes (λ none. omega (arith, seen_count, less.0)), tt));
            phase = refl;
            does = (x, (refl, refl), seen_counted u x less.1, less.0 ∙ sym seen_count);
          });
        }

    pub let_go_step : (r : Option ℕ) (answer : Result ℕ Refusal) → answer ≡ ok_or r NotHeld → LettingGo t u at r
        → Step K L m (plain (let_go h)) (gave answer) (model L f opened u)
    let_go_step None answer is done = subst (λ a. Step K L m (plain (let_go h)) (gave a) (model L f opened u)) (sym is) (let_go_unheld done)
    let_go_step (Some x) answer is done = subst (λ a. Step K L m (plain (let_go h)) (gave a) (model L f opened u)) (sym is) (let_go_less x done)
