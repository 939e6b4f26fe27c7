use Rattle.std.proofs.Common.{T, ◌<◌, refl, subst, inl, inr, arith}
use Rattle.std.specs.Int.{from_bool}
use Rattle.diagrams.specs.Tasks
use Rattle.histories.specs.Builds.{constant, mark}
use Rattle.histories.proofs.Faults.{passes}
use Rattle.histories.proofs.Reachability.{keeps}
use Rattle.layouts.specs.View.{view}
use Rattle.building.specs.Operations.{meant}
use Rattle.building.proofs.Restricting.{constant_small}
use Rattle.tables.specs.Settling.{Sure}
use Rattle.tables.proofs.Lawfulness.{lawful}
use Rattle.tables.proofs.Settling.{short_came, settled_build}
use Rattle.tables.proofs.Calling.{combined_step, restricted_step}
use Rattle.tables.proofs.open.Open.carry_out.Goals as goal

pub returns-in-Constant : goal.returns-in-Constant
returns-in-Constant g c =
    let K = g.K.Value.kind in
    let start = c.args.self.now in
    let v = c.in-Constant.word in
    let ok = lawful g.K.Value.laws start.layout in
    let val : T (K.value v) = subst (Sure K start) c.in-Constant.is c.requires in
    rw c.in-Constant.is
    (λ settled r end. keeps ok (λ sound.
    settled_build K g.S.Store.entries start (constant v) (Tasks.constant v) ok sound refl val
    (λ room. (passes (λ none. none val), (room, tt))) (λ full. inr (passes (λ none. none val), inl full))
    c.constant.new.places start.store settled c.constant.result r
    (short_came K g.S.Store.entries start (constant v) (Tasks.constant v) ok sound refl val refl (λ k none. none) c.constant.new.places c.constant.result (c.constant.ensures K (view start.layout)))
    end))

pub returns-in-Mark : goal.returns-in-Mark
returns-in-Mark g c =
    let K = g.K.Value.kind in
    let start = c.args.self.now in
    let i = c.in-Mark.mark in
    let ok = lawful g.K.Value.laws start.layout in
    let known : i < (view start.layout).size = subst (Sure K start) c.in-Mark.is c.requires in
    rw c.in-Mark.is
    (λ settled r end. keeps ok (λ sound.
    settled_build K g.S.Store.entries start (mark i) (Tasks.mark i) ok sound refl (omega arith, known)
    (λ room. (passes (λ far. omega (arith, known)), (room, tt))) (λ full. inr (passes (λ far. omega (arith, known)), inl full))
    c.mark.new.places start.store settled c.mark.result r
    (short_came K g.S.Store.entries start (mark i) (Tasks.mark i) ok sound refl (omega arith, known) refl (λ k none. none) c.mark.new.places c.mark.result c.mark.ensures)
    end))

pub returns-in-Combine : goal.returns-in-Combine
returns-in-Combine g c =
    let start = c.args.self.now in
    let call = c.in-Combine in
    let ok = lawful g.K.Value.laws start.layout in
    let sure = subst (Sure g.K.Value.kind start) c.in-Combine.is c.requires in
    rw c.in-Combine.is
    (λ settled r end. keeps ok (λ sound.
    combined_step g.K.Value.kind g.S.Store.entries start ok sound (meant call.operation) call.left call.right call.left call.right
    (refl, sure.0) (refl, sure.1) c.combine.new.places c.combine.new.store settled c.combine.result r c.combine.ensures end))

pub returns-in-Restrict : goal.returns-in-Restrict
returns-in-Restrict g c =
    let start = c.args.self.now in
    let call = c.in-Restrict in
    let ok = lawful g.K.Value.laws start.layout in
    let sure = subst (Sure g.K.Value.kind start) c.in-Restrict.is c.requires in
    rw c.in-Restrict.is
    (λ settled r end. keeps ok (λ sound.
    restricted_step g.K.Value.kind g.S.Store.entries start ok sound call.place call.mark (from_bool call.one) call.place call.mark (from_bool call.one)
    (refl, sure.0) (refl, sure.1) refl (constant_small call.one) c.restrict.new.places c.restrict.new.store settled c.restrict.result r c.restrict.ensures end))
