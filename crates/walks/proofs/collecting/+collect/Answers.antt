use Rattle.std.proofs.Common.{◌≡◌, ℕ, length, get_or, sym, ap, ◌∙◌, arith}
use Rattle.diagrams.specs.Places.{node_at}
use Rattle.places.specs.declared.place.Content.{Content}
use Rattle.places.specs.declared.place.Content.TheVariants.{Node}
use Rattle.places.specs.declared.places.Places.{Places}
use Rattle.places.specs.Contents.{seen_content, depth}
use Rattle.places.specs.Tables.{holds}
use Rattle.places.proofs.Holding.{seen_one}
use Rattle.places.proofs.Extending.{used_below, node_under}
use Rattle.walks.specs.declared.order.Order.{Order}
use Rattle.walks.specs.Orders.{collected}
use Rattle.places.proofs.Drawing.{used_stands}
use Rattle.walks.proofs.Walking.{ready_room, plain_ready, node_ready, walked_already, walked_plain, walked_node, left, still_begun}
use Rattle.walks.proofs.collecting.+collect.Goals as goal
use Rattle.walks.proofs.collecting.+collect.Goals.{in-Node, in_default}

-- What was read and is no node holds none.
plain : (t : Places) (h : ℕ) (s : Content) → seen_content s ≡ holds t h → ((l x y : ℕ) → s ≡ Node l x y → ⊥)
    → (l x y : ℕ) → holds t h ≡ node_at l x y → ⊥
plain t h s e n l x y p = n l x y (seen_one s (Node l x y) (e ∙ p))

pub returns-then-marks-place-gt0 : goal.returns-then-marks-place-gt0
returns-then-marks-place-gt0 t c = walked_already c.args.places.now c.args.place c.args.marks.now _ c.if-marks-place-gt0.true

pub collect-requires-in-Node : goal.collect-requires-in-Node
collect-requires-in-Node t c =
    let p = c.args.places.now in
    let n = c.in-Node in
    let e = sym n.ensures in
    let under = node_under p c.args.place n.level n.low n.high e in (
      omega (arith, ap depth e, under.0, under.2.level, c.decreases),
      (
        under.2.used,
        (omega arith, still_begun p n.low c.args.marks.now _ _ _ under.1.used c.requires.begun c.collect.ensures),
      ),
    )

pub push-requires : goal.push-requires
push-requires t c =
    let p = c.args.places.now in
    let h = c.args.place in
    let marks = c.args.marks.now in
    let d = used_stands p h c.requires.used in
    let b = c.requires.begun in
    let zero : get_or marks h 0 ≡ 0 = omega arith in
    elim c.match-content.branch [
      | in-Node w ↦
          let n = w.in-Node in
          let ready = node_ready p h marks _ zero n.level n.low n.high (sym n.ensures) _ _ _ _
          w.collect.ensures w.collect-in-Node.ensures d.0 b.0 d.1 b.1 in
          omega (arith, ready_room p ready.2, ap (λ (o : Order). length (collected o)) w.order-is)
      | in_default w ↦
          let none = plain p h c.content.result c.content.ensures w.in_default.not-Node in
          let ready = plain_ready p h marks _ zero none d.0 b.0 d.1 b.1 in
          omega (arith, ready_room p ready, ap (λ (o : Order). length (collected o)) w.order-is)
    ]

pub returns : goal.returns
returns t c =
    let p = c.args.places.now in
    let h = c.args.place in
    let marks = c.args.marks.now in
    let zero : get_or marks h 0 ≡ 0 = omega arith in
    let below = used_below p h c.requires.used in
    elim c.match-content.branch [
      | in-Node w ↦
          let n = w.in-Node in
          let walked = walked_node p h marks _ zero n.level n.low n.high (sym n.ensures) _ _ _ _
          w.collect.ensures w.collect-in-Node.ensures (omega arith) below in
          left p walked w.marks-is (ap collected w.order-is) c.push.ensures.items c.len.ensures.value
      | in_default w ↦
          let none = plain p h c.content.result c.content.ensures w.in_default.not-Node in
          left p (walked_plain p h marks _ zero none (omega arith) below) w.marks-is (ap collected w.order-is) c.push.ensures.items c.len.ensures.value
    ]
