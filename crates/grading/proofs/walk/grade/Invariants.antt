-- The total and the open places come to the value of the rule; open places take ever fewer turns. Assumes nothing.
use Rattle.layouts.specs.View.{view}
use Rattle.grading.specs.Frames.{pending}
use Rattle.grading.proofs.Stacking.{weight}
use Rattle.grading.proofs.Adding.{Adding}
use Rattle.grading.proofs.walk.grade.Given as goal

abbrev pub invariant-loop-place : goal.invariant-loop-place
invariant-loop-place g l = Adding g.K.Value.kind (view l.layout) l.places l.fruit l.handle (pending l.frames) l.total

abbrev pub decreases-loop-place : goal.decreases-loop-place
decreases-loop-place g l = weight l.places (pending l.frames)
