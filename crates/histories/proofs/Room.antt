-- A building call that came to its answer does not find the table full. Assumes nothing.
use Rattle.std.proofs.Common.{ℕ, [], ◌∷◌, subst}
use Rattle.diagrams.specs.Kinds.{Kind}
use Rattle.diagrams.specs.Layouts.{Layout}
use Rattle.diagrams.specs.Diagrams.{Lawful}
use Rattle.diagrams.specs.Tasks.{Task, Fit}
use Rattle.histories.specs.Builds.{Build}
use Rattle.histories.specs.Tables.{Model, Outnumber}
use Rattle.histories.specs.Requests.{Asked}
use Rattle.histories.specs.Steps.{Means, Needed, Worked, Full}
use Rattle.histories.proofs.Sound.{Sound}
use Rattle.histories.proofs.Pigeons.{gains_fit}
use Rattle.histories.proofs.Meanings.{one_meaning}
use Rattle.histories.proofs.StepSound.{one_worked_sound}

pub worked_not_full : {K : Kind} {L : Layout} → Lawful K L → (m n : Model) (q : Asked) → Sound K L m → (b : Build) (task : Task)
    → Means m b task → Fit K L 0 task → Worked K L m (task ∷ []) n → (f p : ℕ) → ¬ Full K L m q b f p
worked_not_full {K} {L} ok m n q sound b task means fit worked f p full =
    let same = one_meaning m b full.2.0 task full.2.1 means in
    gains_fit (one_worked_sound m n sound ok task fit worked) worked.gains
    (subst (λ t. Outnumber m (Needed K L (t ∷ []))) same full.2.2)
