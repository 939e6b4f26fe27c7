use Rattle.std.proofs.Common.{ℕ, ◌≤◌, List, length, refl, ap, ◌∙◌, inr, arith}
use lib.Seq.{sets}
use Rattle.diagrams.specs.Sheets.{sheet}
use Rattle.places.proofs.Drawing.{used_stands}
use Rattle.layouts.specs.View.{view}
use Rattle.walks.specs.Orders.{collected}
use Rattle.writing.specs.Records.{under_head}
use Rattle.writing.proofs.Measuring.{walk_from, walk_measured, sets_front}
use Rattle.writing.proofs.sheet.written.Goals as goal

pub returns-then-output-needed-clause-answer : goal.returns-then-output-needed-clause-answer
returns-then-output-needed-clause-answer g c = λ walk room.
    let t = c.args.places.now in
    let live = rw c.in_ok-place.ensures.ok_part at c.live.ensures in
    let long = walk_measured g.K.Value.kind (view c.args.layout.now) t c.args.handle _ _ (collected c.reach-order.result) live.0 c.reach-order.ensures.walked c.measure-needed.result
    (omega (arith, c.measure-needed.ensures, c.size.ensures, c.len.ensures, c.nodes.ensures)) in
    (inr (inr (refl, live.1, room, λ d p _. omega (arith, long d p, c.if-output-needed.true))), refl)

pub put_sheet-requires : goal.put_sheet-requires
put_sheet-requires g c =
    let K = g.K.Value.kind in
    let L = view c.args.layout.now in
    let t = c.args.places.now in
    let live = rw c.in_ok-place.ensures.ok_part at c.live.ensures in
    let walked = c.reach-order.ensures.walked in
    let stands = used_stands t c.args.handle live.1 in
    let long = walk_measured K L t c.args.handle _ _ (collected c.reach-order.result) live.0 walked c.measure-needed.result
    (omega (arith, c.measure-needed.ensures, c.size.ensures, c.len.ensures, c.nodes.ensures)) stands.0 stands.1 in (
      stands.0,
      walk_from K L t c.args.handle _ _ (collected c.reach-order.result) live.0 walked stands.0 stands.1,
      omega (arith, ap (λ (head : List ℕ). length (under_head head stands.0)) c.head_of.ensures, long, c.if-output-needed.false),
    )

pub returns-clause-answer : goal.returns-clause-answer
returns-clause-answer g c = λ walk room.
    let K = g.K.Value.kind in
    let L = view c.args.layout.now in
    let t = c.args.places.now in
    let live = rw c.in_ok-place.ensures.ok_part at c.live.ensures in
    let walked = c.reach-order.ensures.walked in
    let output = c.args.output.now in
    let from = walk_from K L t c.args.handle _ _ (collected c.reach-order.result) live.0 walked in
    let long = walk_measured K L t c.args.handle _ _ (collected c.reach-order.result) live.0 walked c.measure-needed.result
    (omega (arith, c.measure-needed.ensures, c.size.ensures, c.len.ensures, c.nodes.ensures)) in (
      live.1,
      room,
      λ d p _.
          let fits : length (sheet K L d) ≤ length output = omega (arith, long d p, c.if-output-needed.false) in record {
            long = long d p;
            fits = fits;
            bytes =
                c.put_sheet.ensures d (from d p)
                ∙ ap (λ (head : List ℕ). sets output 0 (under_head head d)) c.head_of.ensures
                ∙ sets_front output (sheet K L d) fits;
          },
    )
