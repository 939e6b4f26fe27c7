-- A building call means one call over diagrams, which is fit where the call is in range. Assumes nothing.
use Rattle.std.proofs.Common.{◌≡◌, sym, ap, ◌∙◌, ap₂, arith}
use Rattle.diagrams.specs.Kinds.{Kind}
use Rattle.diagrams.specs.Layouts.{Layout}
use Rattle.diagrams.specs.Tasks
use Rattle.diagrams.specs.Tasks.{Task, Fit}
use Rattle.diagrams.proofs.Places.{stands_for_one}
use Rattle.histories.specs.Builds.{Build, constant, mark, combine, restrict}
use Rattle.histories.specs.Tables.{Model, content}
use Rattle.histories.specs.Steps.{Means}
use Rattle.histories.proofs.Sound.{Sound}
use Rattle.histories.proofs.Standing.{stands_good}
use Rattle.histories.proofs.Faults.{InRange}

pub one_meaning : (m : Model) (b : Build) (t u : Task) → Means m b t → Means m b u → t ≡ u
one_meaning m (constant v) t u p q = p ∙ sym q
one_meaning m (mark i) t u p q = p ∙ sym q
one_meaning m (combine o x y) t u p q =
    p.4
    ∙ ap₂ (Tasks.combine o) (stands_for_one (content m) p.0 q.0 x p.2 q.2) (stands_for_one (content m) p.1 q.1 y p.3 q.3)
    ∙ sym q.4
one_meaning m (restrict x i v) t u p q =
    p.2 ∙ ap (λ d. Tasks.restrict d i v) (stands_for_one (content m) p.0 q.0 x p.1 q.1) ∙ sym q.2

pub means_fit : {K : Kind} {L : Layout} (m : Model) → Sound K L m → (b : Build) (task : Task) → Means m b task → InRange K L b → Fit K L 0 task
means_fit m sound (constant v) task s within = rw s within
means_fit m sound (mark i) task s within = rw s (omega arith, within)
means_fit m sound (combine o x y) task s within = rw s.4 (stands_good m sound s.0 x s.2, stands_good m sound s.1 y s.3)
means_fit m sound (restrict x i v) task s within = rw s.2 (stands_good m sound s.0 x s.1, within.0, within.1)
