-- From a record's frame to the whole record. Assumes nothing.
use Rattle.std.proofs.Common.{◌≡◌, ℕ, ◌-◌, List, length, take, drop, Ok, Err, sym, refl, ap, ◌∙◌, rules}
use Rattle.std.proofs.lemmas.Result.{err_from_is_err_and}
use Rattle.std.proofs.lemmas.List.{take_rest}
use Rattle.diagrams.specs.Diagrams.{Diagram}
use Rattle.diagrams.specs.Layouts.{Layout}
use Rattle.diagrams.specs.Reading.{found}
use Rattle.refusals.specs.declared.refusal.Refusal.{Refusal}
use Rattle.refusals.specs.declared.fault.SheetFault.TheVariants.{Broken}
use Rattle.sheets.specs.Held.{Listed}
use Rattle.sheets.specs.Judged.{judged}
use Rattle.sheets.proofs.Judging.{frame_right}
use Rattle.sheets.proofs.scan.next.Given as given
use Rattle.sheets.proofs.scan.next.Goals as goal
use Rattle.sheets.proofs.scan.next.Goals.{In_ok-item}

-- A record whose frame is right comes to what it holds.
comes : (g : given.Over) (c : goal.In_ok-item g) (L : Layout) (seen : List Diagram) → Listed c.args.bytes.now c.args.list.now seen
    → found g.V.Value.kind L c.args.expected.limit seen (drop c.args.place c.args.bytes.now) ≡ judged g.V.Value.kind L c.args.expected.limit seen c.in_ok-item.item
comes g c L seen listed =
    let lent : List ℕ = take (length c.args.bytes.now - c.args.place) (drop c.args.place c.args.bytes.now) in
    ap (found g.V.Value.kind L c.args.expected.limit seen) (sym (take_rest c.args.bytes.now c.args.place))
    ∙ frame_right g.V.Value.kind L c.args.expected.limit seen (length c.args.list.now) c.args.place lent listed.whole c.in_ok-item.item c.in_ok-item.ensures

pub returns-in_err-map_err : goal.returns-in_err-map_err
returns-in_err-map_err g c = λ L seen types listed.
    let q = err_from_is_err_and c.from_residual-in_err-map_err.result c.from_residual-in_err-map_err.ensures.1 in
    let broken : (e : Refusal) × (c.check_item.result ≡ Err e) × (c.in_err-map_err.field-0.0 ≡ Broken e c.args.place) = search rules in
    let judges = rw (c.new-records.ensures seen listed, broken.1) at (c.check_item.ensures L types) in
    rw (q.1, q.2, broken.2) (record { refused = comes g (goal.at.returns-in_err-map_err g c).In_ok-item L seen listed ∙ sym judges; there = refl })

pub returns : goal.returns
returns g c = λ L seen types listed.
    let right : c.check_item.result ≡ Ok tt = search rules in
    comes g (goal.at.returns g c).In_ok-item L seen listed ∙ sym (rw (c.new-records.ensures seen listed, right) at (c.check_item.ensures L types))
