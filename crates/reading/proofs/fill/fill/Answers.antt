use Rattle.std.proofs.Common.{rules, ◌-◌, ◌<◌, length, get_or, take, sym, ap, subst, ap₂, arith}
use Rattle.places.specs.Tables.{Given, Refused}
use Rattle.walks.specs.Orders.{collected}
use Rattle.building.specs.Work.{model}
use Rattle.reading.specs.Placing.{content_of, Placeable, Filled, Crowded}
use Rattle.reading.proofs.Placing.{Placed}
use Rattle.reading.proofs.Turning.{all_placed, all_counted, all_filled, turn_few, turn_placeable, turn_next, turn_crowded}
use Rattle.reading.proofs.fill.fill.Goals as goal

pub place-given-requires : goal.place-given-requires
place-given-requires c =
    let K = c.requires.0 in
    let L = c.requires.1 in
    let seen = c.requires.2 in
    let ready = c.requires.3 in
    let inside : c.loop-number.number < length seen = omega (arith, c.requires.4) in
    subst (λ hs. Placeable c.loop-number.places hs c.item.result) (sym c.as_slice.ensures.value)
    (subst (Placeable c.loop-number.places (collected c.loop-number.order)) (sym (c.item.ensures seen ready.held inside))
    (turn_placeable K L _ _ seen ready _ _ _ c.loop-number.number inside (c.loop-number.invariant K L seen ready c.requires.4)))

pub returns-in_err-handle-clause-filled : goal.returns-in_err-handle-clause-filled
returns-in_err-handle-clause-filled c = λ K L seen ready counted f p sound.
    let inside : c.loop-number.number < length seen = omega arith in
    let content = ap₂ content_of c.as_slice.ensures.value (c.item.ensures seen ready.held inside) in
    let full : Crowded (model L f p c.args.places.now) seen c.loop-number.number =
    turn_crowded K L _ _ seen ready _ _ _ c.loop-number.number inside (c.loop-number.invariant K L seen ready counted) c.place-given.new.places
    (subst (Refused c.loop-number.places c.place-given.new.places) content (rw c.in_err-handle.ensures.ok_part at c.place-given.ensures)) f p sound in
    search (rules, full)

pub push-requires : goal.push-requires
push-requires c =
    let K = c.requires.0 in
    let L = c.requires.1 in
    let seen = c.requires.2 in
    let ready = c.requires.3 in
    turn_few K L _ _ seen ready _ _ _ c.loop-number.number (omega (arith, c.requires.4)) (c.loop-number.invariant K L seen ready c.requires.4)

pub loop-number-preserved : goal.loop-number-preserved
loop-number-preserved c = λ K L seen ready counted.
    let inside : c.loop-number.number < length seen = omega arith in
    let content = ap₂ content_of c.as_slice.ensures.value (c.item.ensures seen ready.held inside) in
    subst (Placed c.args.places.now c.place-given.new.places (take _ seen)) (sym c.push.ensures.items)
    (turn_next K L _ _ seen ready _ _ _ c.loop-number.number inside (c.loop-number.invariant K L seen ready counted) c.place-given.new.places c.in_ok-handle.handle
    (subst (λ x. Given c.loop-number.places c.place-given.new.places x c.in_ok-handle.handle) content (rw c.in_ok-handle.ensures.ok_part at c.place-given.ensures)))

pub bounds-as_slice-records : goal.bounds-as_slice-records
bounds-as_slice-records c =
    let K = c.requires.0 in
    let L = c.requires.1 in
    let seen = c.requires.2 in
    let ready = c.requires.3 in
    let placed = all_placed K L _ _ seen ready _ _ _ c.loop-number.number (omega (arith, c.requires.4)) (c.loop-number.invariant K L seen ready c.requires.4) in
    omega (arith, all_counted K L _ _ seen ready _ _ _ placed, ap length c.as_slice-2.ensures.value, c.requires.4, ready.some)

pub returns : goal.returns
returns c = record {
  filled = λ K L seen ready counted f p sound.
      let placed = all_placed K L _ _ seen ready _ _ _ c.loop-number.number (omega arith) (c.loop-number.invariant K L seen ready counted) in
      subst (Filled (model L f p c.args.places.now) (model L f p c.loop-number.places) seen)
      (ap₂ (λ hs n. get_or hs (n - 1) 0) (sym c.as_slice-2.ensures.value) (sym counted))
      (all_filled K L _ _ seen ready _ _ _ placed f p sound);
  inside = tt;
}
