use Rattle.std.proofs.Common.{◌≡◌, ◌^◌, true, ltb, sym, ◌∙◌, subst}
use Rattle.std.proofs.lemmas.Bool.{ltb-true}
use Rattle.std.proofs.lemmas.Result.{err_from_is_err_and}
use Rattle.diagrams.specs.Places.{Stands}
use Rattle.histories.proofs.Reachability.{keeps}
use Rattle.layouts.specs.View.{view}
use Rattle.places.specs.Tables.{holds}
use Rattle.tables.proofs.Lawfulness.{lawful}
use Rattle.tables.proofs.Grading.{grade_dead, graded}
use Rattle.tables.proofs.released.Released.value_of.Goals as goal

pub returns-in_err-place : goal.returns-in_err-place
returns-in_err-place g c =
    let start = c.args.self.now in
    let p = err_from_is_err_and c.from_residual.result c.from_residual.ensures.1 in
    rw (p.1, p.2)
    (keeps (lawful g.K.Value.laws start.layout)
    (λ _. grade_dead g.K.Value.kind (view start.layout) (g.S.Store.entries start.store) start.places c.args.handle c.args.fruit c.in_err-place.field-0.0 c.in_err-place.ensures))

pub returns : goal.returns
returns g c =
    let K = g.K.Value.kind in
    let start = c.args.self.now in
    let live = c.in_ok-place.ensures in
    let near : ltb c.args.fruit (2 ^ start.layout.size) ≡ true = sym c.is_fruit.ensures ∙ c.if-not-is_fruit.false in
    keeps (lawful g.K.Value.laws start.layout)
    (λ sound. graded K (view start.layout) (g.S.Store.entries start.store) start.places c.args.handle c.args.fruit sound live.1
    (ltb-true c.args.fruit (2 ^ start.layout.size) near) c.grade.result
    (λ d stands good. c.grade.ensures d (subst (Stands (holds start.places) d) (sym live.0) stands) good))
