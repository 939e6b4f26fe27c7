-- Each turn moves what a place adds from the open places to the total. Assumes nothing.
use Rattle.std.proofs.Common.{ℕ, List, [], ◌∷◌, ◌++◌, ap, ◌∙◌}
use Rattle.diagrams.specs.Diagrams.{Lawful}
use Rattle.layouts.specs.declared.layout.Layout.{Layout}
use Rattle.layouts.specs.View.{view}
use Rattle.layouts.proofs.Laying.{layout_valid}
use Rattle.grading.specs.Frames.{pending}
use Rattle.grading.proofs.Pending.{last_first}
use Rattle.grading.proofs.Stacking.{opened_lighter}
use Rattle.grading.proofs.Adding.{began, went}
use Rattle.grading.proofs.walk.grade.Given.{Over}
use Rattle.grading.proofs.walk.grade.Goals as goal

lawful : (g : Over) (y : Layout) → Lawful g.K.Value.kind (view y)
lawful g y = record { laws = g.K.Value.laws; valid = layout_valid y }

pub loop-place-init : goal.loop-place-init
loop-place-init g c =
    rw (last_first _ [] _ (c.push.ensures.items ∙ ap (λ (xs : List ℕ). xs ++ (c.args.handle ∷ [])) c.new-frames.ensures), c.ZERO-total.ensures ∙ g.met.K.Value.zero_of_kind)
    (began _ _ (lawful g c.args.layout.now) _ _ c.args.handle)

pub loop-place-smaller : goal.loop-place-smaller
loop-place-smaller g c =
    let t = c.args.places.now in
    rw (c.visit.ensures.opens, last_first _ _ _ c.in-Some.ensures.items)
    (opened_lighter t (view c.args.layout.now) c.args.fruit c.in-Some.place (pending c.pop.new.self))

pub loop-place-preserved : goal.loop-place-preserved
loop-place-preserved g c =
    rw (c.visit.ensures.opens, c.sum-total.ensures, c.visit.ensures.gives)
    (went _ _ (lawful g c.args.layout.now) _ _ _ _ _ _ (rw (last_first _ _ _ c.in-Some.ensures.items) at c.loop-place.invariant))
