use Rattle.std.proofs.Common.{Ok, Err}
use Rattle.std.proofs.lemmas.Result.{err_from_is_err_and}
use Rattle.histories.proofs.Reachability.{keeps}
use Rattle.layouts.specs.View.{view}
use Rattle.tables.proofs.Lawfulness.{lawful}
use Rattle.tables.proofs.Counting.{hold_dead, hold_step}
use Rattle.tables.proofs.open.Open.hold_live.Goals as goal

pub returns-in_err-place : goal.returns-in_err-place
returns-in_err-place g c =
    let start = c.args.self.now in
    let p = err_from_is_err_and c.from_residual.result c.from_residual.ensures.1 in
    rw (p.1, p.2)
    (keeps (lawful g.K.Value.laws start.layout)
    (λ _. hold_dead g.K.Value.kind (view start.layout) (g.S.Store.entries start.store) start.places c.args.handle c.in_err-place.field-0.0 c.in_err-place.ensures))

pub returns-in_err-count : goal.returns-in_err-count
returns-in_err-count g c =
    let start = c.args.self.now in
    let p = err_from_is_err_and c.from_residual-in_err-count.result c.from_residual-in_err-count.ensures.1 in
    rw (p.1, p.2)
    (keeps (lawful g.K.Value.laws start.layout)
    (λ _. hold_step g.K.Value.kind (view start.layout) (g.S.Store.entries start.store) start.places c.args.handle c.in_ok-place.place c.in_ok-place.ensures
    c.hold.new.self c.hold.result (Err c.in_err-count.field-0.0) c.in_err-count.ensures.value c.hold.ensures))

pub returns : goal.returns
returns g c =
    let start = c.args.self.now in
    keeps (lawful g.K.Value.laws start.layout)
    (λ _. hold_step g.K.Value.kind (view start.layout) (g.S.Store.entries start.store) start.places c.args.handle c.in_ok-place.place c.in_ok-place.ensures
    c.hold.new.self c.hold.result (Ok c.from.result) (rw c.from.ensures c.in_ok-count.ensures.value) c.hold.ensures)
