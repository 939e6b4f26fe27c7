-- Combining and restricting live handles take their steps. Assumes nothing.
use Rattle.std.proofs.Common.{◌≡◌, ℕ, ◌<◌, ◌≤◌, [], Err, Option, Result, refl, subst, inl, inr, arith}
use Rattle.diagrams.specs.Kinds.{Kind}
use Rattle.diagrams.specs.Layouts.{Layout as Plan}
use Rattle.diagrams.specs.Diagrams.{Lawful}
use Rattle.diagrams.specs.Tasks
use Rattle.diagrams.specs.Tasks.{Operation}
use Rattle.histories.specs.Stores.{Entries}
use Rattle.diagrams.specs.Places.{free}
use Rattle.histories.specs.Builds.{Build, combine, restrict}
use Rattle.histories.specs.Tables.{opened, Model, content, Live}
use Rattle.histories.specs.Requests.{build}
use Rattle.histories.specs.Steps.{Means, First, faults, Step}
use Rattle.histories.proofs.Sound.{Sound}
use Rattle.histories.proofs.Faults.{passes, is_due}
use Rattle.refusals.specs.Refusals.{number}
use Rattle.refusals.specs.declared.refusal.Refusal.{Refusal}
use Rattle.refusals.specs.declared.refusal.Refusal.TheVariants.{NotLive, NotAConstant}
use Rattle.layouts.specs.View.{view}
use Rattle.places.specs.declared.places.Places.{Places}
use Rattle.places.specs.Tables.{Used}
use Rattle.building.specs.Operations.{combine_key, restrict_key}
use Rattle.building.specs.Calls.{Combined}
use Rattle.building.specs.Restricting.{Restricted}
use Rattle.building.proofs.Seeing.{seen_live, stands_seen}
use Rattle.tables.specs.declared.open.Open.{Open}
use Rattle.tables.specs.Models.{open_model, plain, gave}
use Rattle.tables.specs.Settling.{Settled}
use Rattle.tables.proofs.Refusing.{refused_as, dead_free}
use Rattle.tables.proofs.Settling.{keyed_came, settled_build}

-- Refused before anything is built: all is as before.
module _ {V S : Type 0} (K : Kind) (entries : S → Entries) (start : Open V S) where
  abbrev m : Model
  m = open_model entries start

  abbrev L : Plan
  L = view start.layout

  refused_build : (b : Build) (told e : Refusal) → told ≡ e → First (faults K L m (plain (build b)) (build b)) (number e) 0 → ¬ (number e ≡ 25)
      → Step K L m (plain (build b)) (gave (Err told)) m
  refused_build b told e is first other = refused_as K L m (plain (build b)) told e is [] refl (refl, refl) refl first other

  unused : (h : ℕ) → (Used start.places h → ⊥) → content m h ≡ free
  unused h dead = dead_free L (entries start.store) opened start.places h dead

  living : (h : ℕ) → Used start.places h → Live m h
  living h used = seen_live L (entries start.store) opened start.places h used

  pub left_dead : (o : Operation) (a b : ℕ) (e : Refusal) → (e ≡ NotLive) × (Used start.places a → ⊥)
      → Step K L m (plain (build (combine o a b))) (gave (Err e)) m
  left_dead o a b e dead = refused_build (combine o a b) e NotLive dead.0 (inl (is_due (unused a dead.1))) (λ n. omega arith)

  pub right_dead : (o : Operation) (a b : ℕ) (e : Refusal) → Used start.places a → (e ≡ NotLive) × (Used start.places b → ⊥)
      → Step K L m (plain (build (combine o a b))) (gave (Err e)) m
  right_dead o a b e used dead =
      refused_build (combine o a b) e NotLive dead.0 (inr (passes (living a used), inl (is_due (unused b dead.1)))) (λ n. omega arith)

  pub restricted_dead : (h i c : ℕ) (e : Refusal) → i < L.size → (e ≡ NotLive) × (Used start.places h → ⊥)
      → Step K L m (plain (build (restrict h i c))) (gave (Err e)) m
  restricted_dead h i c e inside dead =
      refused_build (restrict h i c) e NotLive dead.0 (inr (passes (λ far. omega arith), inl (is_due (unused h dead.1)))) (λ n. omega arith)

  pub restricted_beyond : (h i c : ℕ) (e : Refusal) → i < L.size → Used start.places h → (e ≡ NotAConstant) × (2 ≤ c)
      → Step K L m (plain (build (restrict h i c))) (gave (Err e)) m
  restricted_beyond h i c e inside used far =
      refused_build (restrict h i c) e NotAConstant far.0 (inr (passes (λ out. omega arith), inr (passes (living h used), inl (is_due far.1))))
      (λ n. omega arith)

module _ {V S : Type 0} (K : Kind) (entries : S → Entries) (start : Open V S) (ok : Lawful K (view start.layout))
    (sound : Sound K (view start.layout) (open_model entries start)) where
  abbrev plan : Plan
  plan = view start.layout

  abbrev f : Entries
  f = entries start.store

  alive : (h : ℕ) → Used start.places h → Live (open_model entries start) h
  alive h used = seen_live plan f opened start.places h used

  abbrev filled : Places → S → Open V S
  filled u s = record { layout = start.layout; places = u; store = s; kind = start.kind }

  -- By the places x and y of the handles a and b.
  pub combined_step : (o : Operation) (a b x y : ℕ) → (x ≡ a) × Used start.places a → (y ≡ b) × Used start.places b
      → (u : Places) (s : S) (after : Open V S) (r : Option ℕ) (answer : Result ℕ Refusal)
      → Combined K plan o x y start.places u f (entries s) r → Settled entries (filled u s) after start.places r answer
      → Step K plan (open_model entries start) (plain (build (combine o a b))) (gave answer) (open_model entries after)
  combined_step o a b x y left right u s after r answer done end =
      let here : Combined K plan o a b start.places u f (entries s) r =
      subst (λ n. Combined K plan o a n start.places u f (entries s) r) right.0 (subst (λ n. Combined K plan o n y start.places u f (entries s) r) left.0 done) in
      let first = sound.good a (alive a left.1) in
      let second = sound.good b (alive b right.1) in
      let task = Tasks.combine o first.0 second.0 in
      let means : Means (open_model entries start) (combine o a b) task = (first.0, second.0, first.2, second.2, refl) in
      settled_build K entries start (combine o a b) task ok sound means (first.1, second.1)
      (λ room. (passes (alive a left.1), (passes (alive b right.1), (room, tt))))
      (λ full. inr (passes (alive a left.1), inr (passes (alive b right.1), inl full)))
      u s after r answer
      (keyed_came K entries start (combine o a b) task ok sound means (first.1, second.1) (combine_key o a b) (a, b, first.2, second.2, refl) u s r
      (here.done ok first.0 second.0 (stands_seen plan f opened start.places first.0 a first.2) (stands_seen plan f opened start.places second.0 b second.2)))
      end

  -- By the place x of the handle h, the mark n of the number i, and the number k of whether the constant is 1.
  pub restricted_step : (h i c x n k : ℕ) → (x ≡ h) × Used start.places h → (n ≡ i) × (i < plan.size) → k ≡ c → c < 2
      → (u : Places) (s : S) (after : Open V S) (r : Option ℕ) (answer : Result ℕ Refusal)
      → Restricted K plan n k x start.places u f (entries s) r → Settled entries (filled u s) after start.places r answer
      → Step K plan (open_model entries start) (plain (build (restrict h i c))) (gave answer) (open_model entries after)
  restricted_step h i c x n k live known told small u s after r answer done end =
      let inside = known.1 in
      let here : Restricted K plan i c h start.places u f (entries s) r =
      subst (λ c. Restricted K plan i c h start.places u f (entries s) r) told
      (subst (λ i. Restricted K plan i k h start.places u f (entries s) r) known.0 (subst (λ h. Restricted K plan n k h start.places u f (entries s) r) live.0 done)) in
      let whole = sound.good h (alive h live.1) in
      let task = Tasks.restrict whole.0 i c in
      let means : Means (open_model entries start) (restrict h i c) task = (whole.0, whole.2, refl) in
      settled_build K entries start (restrict h i c) task ok sound means (whole.1, inside, small)
      (λ room. (passes (λ far. omega (arith, inside)), (passes (alive h live.1), (passes (λ far. omega arith), (room, tt)))))
      (λ full. inr (passes (λ far. omega (arith, inside)), inr (passes (alive h live.1), inr (passes (λ far. omega arith), inl full))))
      u s after r answer
      (keyed_came K entries start (restrict h i c) task ok sound means (whole.1, inside, small) (restrict_key h i c) (h, whole.2, refl) u s r
      (here.done ok whole.0 (stands_seen plan f opened start.places whole.0 h whole.2)))
      end
