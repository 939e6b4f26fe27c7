-- A building call takes its step: its handle is given, or the table is full. Assumes nothing.
use Rattle.std.proofs.Common.{◌≡◌, ℕ, true, [], ◌∷◌, Some, None, Ok, Err, Option, Result, sym, refl, ◌∙◌, subst, inl, inr, arith}
use Rattle.std.proofs.lemmas.Bool.{false≢true}
use Rattle.diagrams.specs.Kinds.{Kind}
use Rattle.diagrams.specs.Layouts.{Layout as Plan}
use Rattle.diagrams.specs.Diagrams.{Lawful}
use Rattle.diagrams.specs.Tasks.{Task, Fit, result}
use Rattle.diagrams.specs.Building.{shortcut}
use Rattle.diagrams.proofs.Results.{answered}
use Rattle.histories.specs.Stores.{Entries, Key, Forgotten}
use Rattle.histories.specs.Builds.{Build}
use Rattle.histories.specs.Tables.{opened, Model, Outnumber}
use Rattle.histories.specs.Requests.{build}
use Rattle.histories.specs.Steps.{Means, Keyed, Faultless, First, faults, Full, Needed, Built, Step}
use Rattle.histories.proofs.Sound.{Sound}
use Rattle.histories.proofs.Meanings.{one_meaning}
use Rattle.histories.proofs.Room.{worked_not_full}
use Rattle.refusals.specs.declared.refusal.Refusal.{Refusal}
use Rattle.refusals.specs.declared.refusal.Refusal.TheVariants.{TableFull}
use Rattle.layouts.specs.View.{view}
use Rattle.places.specs.declared.places.Places.{Places}
use Rattle.building.specs.Work.{model, Works}
use Rattle.building.specs.Calls.{Ended}
use Rattle.building.proofs.Built.{answered_built}
use Rattle.tables.specs.declared.open.Open.{Open}
use Rattle.tables.specs.Models.{open_model, plain, gave}
use Rattle.tables.specs.Settling.{Settled}

module _ (K : Kind) (L : Plan) (b : Build) (f : Entries) (t : Places) where
  abbrev m : Model
  m = model L f opened t

  given_step : (task : Task) → Lawful K L → Sound K L m → Means m b task → Fit K L 0 task → (g : Entries) (u : Places) (h : ℕ)
      → Built K L m b h (model L g opened u)
      → (((n p : ℕ) → ¬ Full K L m (plain (build b)) b n p) → Faultless (faults K L m (plain (build b)) (build b)))
      → Step K L m (plain (build b)) (gave (Ok h)) (model L g opened u)
  given_step task ok sound means fit g u h built accept = record {
    takes = refl;
    lent = (refl, refl);
    layout = refl;
    walk = refl;
    outcome = inl (record {
      faultless = accept (worked_not_full ok m (model L g opened u) (plain (build b)) sound b built.task built.means fits built.worked);
      phase = refl;
      does = (h, (refl, refl), built);
    });
  }
    where
      fits : Fit K L 0 built.task
      fits = subst (Fit K L 0) (sym (one_meaning m b built.task task built.means means)) fit

  -- The table is full: its places are as before, and its store has forgotten.
  full_step : (g : Entries) → Forgotten g → First (faults K L m (plain (build b)) (build b)) 25 0
      → Step K L m (plain (build b)) (gave (Err TableFull)) (model L g opened t)
  full_step g none first = record {
    takes = refl;
    lent = (refl, refl);
    layout = refl;
    walk = refl;
    outcome = inr (record {
      number = 25;
      byte_place = 0;
      first = first;
      told = refl;
      output = refl;
      phase = refl;
      places = refl;
      emptied = λ _. none;
      entries = λ other. absurd (other refl);
    });
  }

-- The call of the code: what building brought from the table `start`, and how the table was settled.
module _ {V S : Type 0} (K : Kind) (entries : S → Entries) (start : Open V S) (b : Build) (task : Task) where
  abbrev plan : Plan
  plan = view start.layout

  abbrev before : Model
  before = open_model entries start

  -- The table as building left it.
  abbrev filled : Places → S → Open V S
  filled u s = record { layout = start.layout; places = u; store = s; kind = start.kind }

  -- What building came to: there was no room for what the call needs, or the call is done.
  abbrev pub Came : Places → S → Option ℕ → Type 0
  Came u s None = Outnumber before (Needed K plan (task ∷ []))
  Came u s (Some h) = Built K plan before b h (open_model entries (filled u s))

  -- A shortcut without a key, which leaves the store.
  pub short_came : Lawful K plan → Sound K plan before → Means before b task → Fit K plan 0 task → shortcut K plan task ≡ true
      → ((k : Key) → ¬ Keyed before task k) → (u : Places) (r : Option ℕ) → Works K plan task start.places u r → Came u start.store r
  short_came ok sound means fit short unkeyed u None works = works ok fit _ opened sound
  short_came ok sound means fit short unkeyed u (Some h) works =
      let brought = works ok fit (entries start.store) opened sound in
      record {
        task = task;
        means = means;
        answers = (result K plan task, brought.stands, λ fruit _. (answered K plan ok 0 (omega arith) task fit).1 fruit);
        worked = record { gains = brought.gains; still = λ _ k. refl; made = λ k g e. inl e; newest = inl (λ k. refl) };
        stored = λ long. absurd (false≢true (sym long ∙ short));
        hit = λ k g keyed. absurd (unkeyed k keyed);
      }

  -- A call with a key.
  pub keyed_came : Lawful K plan → Sound K plan before → Means before b task → Fit K plan 0 task → (key : Key) → Keyed before task key
      → (u : Places) (s : S) (r : Option ℕ) → Ended K plan task key start.places u (entries start.store) (entries s) r → Came u s r
  keyed_came ok sound means fit key keyed u s None ended = ended opened sound
  keyed_came ok sound means fit key keyed u s (Some h) ended = answered_built ok before (open_model entries (filled u s)) sound b task key h means fit keyed (ended opened sound)

  pub settled_build : Lawful K plan → Sound K plan before → Means before b task → Fit K plan 0 task
      → (((n p : ℕ) → ¬ Full K plan before (plain (build b)) b n p) → Faultless (faults K plan before (plain (build b)) (build b)))
      → (Full K plan before (plain (build b)) b 25 0 → First (faults K plan before (plain (build b)) (build b)) 25 0)
      → (u : Places) (s : S) (after : Open V S) (r : Option ℕ) (answer : Result ℕ Refusal) → Came u s r
      → Settled entries (filled u s) after start.places r answer → Step K plan before (plain (build b)) (gave answer) (open_model entries after)
  settled_build ok sound means fit accept refuse u s after (Some h) answer came end =
      let step = given_step K plan b (entries start.store) start.places task ok sound means fit (entries s) u h came accept in
      subst (λ r. Step K plan before (plain (build b)) (gave r) (open_model entries after)) (sym end.told)
      (subst (λ t. Step K plan before (plain (build b)) (gave (Ok h)) (open_model entries t)) (sym end.table) step)
  settled_build ok sound means fit accept refuse u s after None answer came end =
      let step = full_step K plan b (entries start.store) start.places (entries after.store) end.store (refuse (refl, refl, (task, means, came))) in
      subst (λ r. Step K plan before (plain (build b)) (gave r) (open_model entries after)) (sym end.told)
      (subst (λ y. Step K plan before (plain (build b)) (gave (Err TableFull)) (model (view y) (entries after.store) opened after.places)) (sym end.layout)
      (subst (λ t. Step K plan before (plain (build b)) (gave (Err TableFull)) (model plan (entries after.store) opened t)) (sym end.places) step))
