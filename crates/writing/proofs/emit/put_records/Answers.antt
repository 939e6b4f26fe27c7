use Rattle.std.proofs.Common.{ℕ, ◌+◌, ◌<◌, List, length, get_or, take, ap, ◌∙◌, arith, take_all}
use lib.Seq.{sets}
use Rattle.places.specs.Tables.{holds}
use Rattle.walks.specs.Orders.{collected}
use Rattle.sheets.proofs.Joining.{sets_then, place_then}
use Rattle.writing.specs.Records.{entries}
use Rattle.writing.proofs.Recording.{entries_more, entries_room, ready_at, entries_same}
use Rattle.writing.proofs.emit.put_records.Goals as goal

pub put_record-at-requires : goal.put_record-at-requires
put_record-at-requires c =
    let t = c.args.places.now in
    let marks = c.args.marks.now in
    let order = collected c.args.order.now in
    let i = c.loop-place.place-index in
    let items = c.as_slice-place-items.ensures.value in
    let lt : i < length order = omega (arith, ap length items) in
    let here = ap (λ (l : List ℕ). get_or l i 0) items in
    let whole = entries_same t marks order c.requires.0 c.requires.1 in record {
      ready = ready_at t marks order c.requires.0 c.requires.1 i _ lt here;
      room = omega (arith, c.loop-place.invariant.1, entries_room (holds t) marks order i _ lt here, ap length whole, c.requires.2);
    }

pub loop-place-preserved : goal.loop-place-preserved
loop-place-preserved c =
    let t = c.args.places.now in
    let marks = c.args.marks.now in
    let order = collected c.args.order.now in
    let out = c.args.out.now in
    let start = c.args.start in
    let i = c.loop-place.place-index in
    let at = c.loop-place.at in
    let items = c.as_slice-place-items.ensures.value in
    let lt : i < length order = omega (arith, ap length items) in
    let done = entries (holds t) marks (take i order) in
    let more = entries_more (holds t) marks order i _ lt (ap (λ (l : List ℕ). get_or l i 0) items) in
    let inv = c.loop-place.invariant in (
      sets_then out _ start at done _ inv.0 inv.1 _ c.put_record-at.ensures.bytes ∙ ap (sets out start) more,
      place_then out _ start at done _ inv.0 inv.1 _ c.put_record-at.ensures.after ∙ ap (λ (r : List ℕ). start + length r) more,
    )

pub returns : goal.returns
returns c =
    let t = c.args.places.now in
    let marks = c.args.marks.now in
    let order = collected c.args.order.now in
    let i = c.loop-place.place-index in
    let all = ap (entries (holds t) marks) (take_all i order (omega (arith, ap length c.as_slice-place-items.ensures.value))) in
    let inv = c.loop-place.invariant in record {
      bytes = λ d w. inv.0 ∙ ap (sets c.args.out.now c.args.start) (all ∙ entries_same t marks order d w);
      after = λ d w. inv.1 ∙ ap (λ (r : List ℕ). c.args.start + length r) (all ∙ entries_same t marks order d w);
    }
