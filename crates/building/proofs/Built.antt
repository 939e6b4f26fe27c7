-- A call that brought a handle is a building call as the specification of tables has it. Assumes nothing.
use Rattle.std.proofs.Common.{◌≡◌, ℕ, ◌+◌, ◌*◌, false, Some, sym, ap, ◌∙◌, subst, ap₂, arith}
use Rattle.diagrams.specs.Kinds.{Kind}
use Rattle.diagrams.specs.Layouts.{Layout}
use Rattle.diagrams.specs.Diagrams.{Lawful}
use Rattle.diagrams.specs.Tasks.{Task, constant, mark, combine, restrict, Fit, result}
use Rattle.diagrams.specs.Building.{shortcut}
use Rattle.diagrams.specs.Places.{Unshared}
use Rattle.diagrams.proofs.Places.{one_handle}
use Rattle.diagrams.proofs.Results.{answered}
use Rattle.histories.specs.Stores.{Key}
use Rattle.histories.specs.Builds.{Build}
use Rattle.histories.specs.Tables.{Model, content}
use Rattle.histories.specs.Steps.{operation_code, Keyed, Means, Built}
use Rattle.histories.proofs.Sound.{Sound}
use Rattle.histories.proofs.Keeping.{gains_moves}
use Rattle.histories.proofs.Rightness.{keyed_moves}
use Rattle.building.specs.Calls.{BroughtBack}
use Rattle.building.proofs.Keys.{keyed_one}

-- A call has one key.
one_key : (m : Model) → Unshared (content m) → (task : Task) (j k : Key) → Keyed m task j → Keyed m task k → j ≡ k
one_key m apart (constant v) j k p q = absurd p
one_key m apart (mark i) j k p q = absurd p
one_key m apart (combine o a b) j k p q =
    p.4
    ∙ ap₂ (λ (x y : ℕ). record { operation = operation_code o; left = x; right = y }) (one_handle (content m) apart a p.0 q.0 p.2 q.2)
    (one_handle (content m) apart b p.1 q.1 p.3 q.3)
    ∙ sym q.4
one_key m apart (restrict d i c) j k p q =
    p.2 ∙ ap (λ (x : ℕ). record { operation = 3; left = x; right = 2 * i + c }) (one_handle (content m) apart d p.0 q.0 p.1 q.1) ∙ sym q.2

pub answered_built : {K : Kind} {L : Layout} → Lawful K L → (m n : Model) → Sound K L m → (b : Build) (task : Task) (key : Key) (h : ℕ)
    → Means m b task → Fit K L 0 task → Keyed m task key → BroughtBack K L task key m n h → Built K L m b h n
answered_built {K} {L} ok m n sound b task key h means fit keyed done = record {
  task = task;
  means = means;
  answers = (result K L task, done.stands, λ fruit _. (answered K L ok 0 (omega arith) task fit).1 fruit);
  worked = done.worked;
  stored = λ long k q. subst (λ j. n.entries j ≡ Some h) (one_key n done.worked.gains.unshared task key k moved q) (done.stored long);
  hit = λ k g q found.
      let here : m.entries key ≡ Some g = subst (λ j. m.entries j ≡ Some g) (one_key m sound.unshared task k key q keyed) found in
      let entry = sound.right key g here in
      let long : shortcut K L task ≡ false
      = subst (λ z. shortcut K L z ≡ false) (keyed_one K L m entry.task task key entry.fit fit entry.keyed keyed) entry.long in
      done.hit g long here;
}
  where
    moved : Keyed n task key
    moved = keyed_moves m n (gains_moves m n _ done.worked.gains) task key keyed
