use Rattle.std.proofs.lemmas.Result.{err_from_is_err_and}
use Rattle.histories.proofs.Reachability.{keeps}
use Rattle.building.specs.Operations.{meant}
use Rattle.tables.proofs.Lawfulness.{lawful}
use Rattle.tables.proofs.Calling.{left_dead, right_dead, restricted_dead, restricted_beyond}
use Rattle.tables.proofs.open.Open.checked.Goals as goal

pub returns-in_err-left-in-Combine : goal.returns-in_err-left-in-Combine
returns-in_err-left-in-Combine g c =
    let start = c.args.self.now in
    let call = c.in-Combine in
    let p = err_from_is_err_and c.from_residual-in_err-left-in-Combine.result c.from_residual-in_err-left-in-Combine.ensures.1 in
    rw (c.in-Combine.is, p.1, p.2)
    (keeps (lawful g.K.Value.laws start.layout)
    (λ _. left_dead g.K.Value.kind g.S.Store.entries start (meant call.operation) call.a call.b c.in_err-left-in-Combine.field-0.0 c.in_err-left-in-Combine.ensures))

pub returns-in_err-right-in-Combine : goal.returns-in_err-right-in-Combine
returns-in_err-right-in-Combine g c =
    let start = c.args.self.now in
    let call = c.in-Combine in
    let p = err_from_is_err_and c.from_residual-in_err-right-in-Combine.result c.from_residual-in_err-right-in-Combine.ensures.1 in
    rw (c.in-Combine.is, p.1, p.2)
    (keeps (lawful g.K.Value.laws start.layout)
    (λ _. right_dead g.K.Value.kind g.S.Store.entries start (meant call.operation) call.a call.b c.in_err-right-in-Combine.field-0.0
    c.in_ok-left-in-Combine.ensures.1 c.in_err-right-in-Combine.ensures))

pub returns-in_err-place-in-Restrict : goal.returns-in_err-place-in-Restrict
returns-in_err-place-in-Restrict g c =
    let start = c.args.self.now in
    let call = c.in-Restrict in
    let p = err_from_is_err_and c.from_residual-in_err-place-in-Restrict.result c.from_residual-in_err-place-in-Restrict.ensures.1 in
    rw (c.in-Restrict.is, p.1, p.2)
    (keeps (lawful g.K.Value.laws start.layout)
    (λ _. restricted_dead g.K.Value.kind g.S.Store.entries start call.handle call.index call.constant c.in_err-place-in-Restrict.field-0.0
    c.in_ok-mark-in-Restrict.ensures.1 c.in_err-place-in-Restrict.ensures))

pub returns-in_err-one-in-Restrict : goal.returns-in_err-one-in-Restrict
returns-in_err-one-in-Restrict g c =
    let start = c.args.self.now in
    let call = c.in-Restrict in
    let p = err_from_is_err_and c.from_residual-in_err-one-in-Restrict.result c.from_residual-in_err-one-in-Restrict.ensures.1 in
    rw (c.in-Restrict.is, p.1, p.2)
    (keeps (lawful g.K.Value.laws start.layout)
    (λ _. restricted_beyond g.K.Value.kind g.S.Store.entries start call.handle call.index call.constant c.in_err-one-in-Restrict.field-0.0
    c.in_ok-mark-in-Restrict.ensures.1 c.in_ok-place-in-Restrict.ensures.1 c.in_err-one-in-Restrict.ensures))
