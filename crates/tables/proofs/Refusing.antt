-- A call that is refused takes its step: all is as before. Assumes nothing.
use Rattle.std.proofs.Common.{◌≡◌, ℕ, List, Err, sym, refl, ◌∙◌, subst, inr, ⊎_elim}
use Rattle.std.proofs.lemmas.Bool.{cases_Bool}
use Rattle.diagrams.specs.Kinds.{Kind}
use Rattle.diagrams.specs.Layouts.{Layout as Plan}
use Rattle.diagrams.specs.Places.{free}
use Rattle.histories.specs.Stores.{Entries}
use Rattle.histories.specs.Tables.{Phase, Model, content}
use Rattle.histories.specs.Requests.{Asked, Lent, Takes}
use Rattle.histories.specs.Steps.{walk_room, wiped, First, faults, Step}
use Rattle.refusals.specs.Refusals.{number}
use Rattle.refusals.specs.declared.refusal.Refusal.{Refusal}
use Rattle.places.specs.declared.places.Places.{Places}
use Rattle.places.specs.Contents.{in_use}
use Rattle.places.specs.Tables.{holds, Used}
use Rattle.places.proofs.Holding.{unused_free}
use Rattle.building.specs.Work.{model}
use Rattle.building.proofs.Seeing.{seen_content}
use Rattle.tables.specs.Models.{answered}

-- Refused with its first fault, which is not that the table is full.
pub refused_step : (K : Kind) (L : Plan) (m : Model) (q : Asked) (e : Refusal) (walk : List ℕ) → Takes q.call m.phase → Lent q.call q.walk q.output
    → walk ≡ wiped (walk_room m q.call) q.walk → First (faults K L m q q.call) (number e) 0 → ¬ (number e ≡ 25)
    → Step K L m q (answered (Err e) walk q.output) m
refused_step K L m q e walk takes lent left first other = record {
  takes = takes;
  lent = lent;
  layout = refl;
  walk = left;
  outcome = inr (record {
    number = number e;
    byte_place = 0;
    first = first;
    told = refl;
    output = refl;
    phase = refl;
    places = refl;
    emptied = λ full. absurd (other full);
    entries = λ _ k. refl;
  });
}

-- The same of a refusal that is that one.
pub refused_as : (K : Kind) (L : Plan) (m : Model) (q : Asked) (told e : Refusal) → told ≡ e → (walk : List ℕ) → Takes q.call m.phase → Lent q.call q.walk q.output
    → walk ≡ wiped (walk_room m q.call) q.walk → First (faults K L m q q.call) (number e) 0 → ¬ (number e ≡ 25)
    → Step K L m q (answered (Err told) walk q.output) m
refused_as K L m q told e is walk takes lent left first other =
    subst (λ x. Step K L m q (answered (Err x) walk q.output) m) (sym is) (refused_step K L m q e walk takes lent left first other)

-- A place that is not in use is free.
pub dead_free : (L : Plan) (f : Entries) (p : Phase) (t : Places) (h : ℕ) → (Used t h → ⊥) → content (model L f p t) h ≡ free
dead_free L f p t h dead =
    seen_content L f p t h ∙ unused_free (holds t h) (⊎_elim (λ used. absurd (dead used)) (λ none. none) (cases_Bool (in_use (holds t h))))
