-- A table to which steps lead is sound and keeps its layout; what a call has to show. Assumes nothing.
use Rattle.std.proofs.Common.{◌≡◌, ◌∙◌, subst}
use Rattle.diagrams.specs.Kinds.{Kind}
use Rattle.diagrams.specs.Layouts.{Layout}
use Rattle.diagrams.specs.Diagrams.{Lawful}
use Rattle.histories.specs.Tables.{Model}
use Rattle.histories.specs.Requests.{Asked, Answer}
use Rattle.histories.specs.Steps.{Step}
use Rattle.histories.specs.Histories.{Reachable, fresh, further, Kept}
use Rattle.histories.proofs.Sound.{Sound}
use Rattle.histories.proofs.Made.{made_sound}
use Rattle.histories.proofs.StepSound.{step_sound}

pub reachable_layout : {K : Kind} {L : Layout} {m : Model} → Reachable K L m → m.layout ≡ L
reachable_layout (fresh c made) = made.layout
reachable_layout (further r s) = s.layout ∙ reachable_layout r

pub reachable_sound : {K : Kind} {L : Layout} → Lawful K L → {m : Model} → Reachable K L m → Sound K L m
reachable_sound ok {m} (fresh c made) = made_sound m c made ok
reachable_sound ok {m} (further {m = k} {q = q} {a = a} r s) = step_sound k m (reachable_sound ok r) ok q a s

-- A call that keeps its promise takes a step of the table's layout.
pub kept_step : {K : Kind} {L : Layout} {m n : Model} {q : Asked} {a : Answer} → Reachable K L m → Kept K m q a n → Step K L m q a n
kept_step {K} {L} {m} {n} {q} {a} r kept = subst (λ M. Reachable K M m → Step K M m q a n) (reachable_layout r) kept r

-- On a sound table a call has to take a step: then it keeps its promise.
pub keeps : {K : Kind} {m n : Model} {q : Asked} {a : Answer} → Lawful K m.layout
    → (Sound K m.layout m → Step K m.layout m q a n) → Kept K m q a n
keeps ok step r = step (reachable_sound ok r)
