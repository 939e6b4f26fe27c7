-- Each check is that of a rule. Assumes nothing.
use Rattle.std.proofs.Common.{◌≡◌, ◌<◌, false, leb, length, sym, refl, arith}
use Rattle.std.proofs.lemmas.Bool.{lt-leb}
use Rattle.diagrams.specs.Layouts.{Layout, begun}
use Rattle.diagrams.specs.Reading.{node_rules}
use Rattle.sheets.specs.Judged.{Types, is_broken}
use Rattle.sheets.proofs.Judging.{node_placed}
use Rattle.sheets.proofs.records.Records.check_node.Given as given
use Rattle.sheets.proofs.records.Records.check_node.Goals as goal
use Rattle.sheets.proofs.records.Records.check_node.Goals.{Else-len-expected, Else-misplaces, Else-drops}

-- Rule 17 is kept.
roomy : (g : given.Over) (c : goal.Else-len-expected g) → leb c.args.expected.limit (length c.args.self.now) ≡ false
roomy g c = lt-leb _ _ (omega arith)

module _ (g : given.Over) (c : goal.Else-misplaces g) (L : Layout) (size : length c.args.expected.types.now ≡ L.size) where
  -- Rule 19 is kept.
  right : is_broken 19 (node_rules g.V.Value.kind L c.args.expected.limit c.args.self.now c.args.level c.args.low c.args.high) ≡ false
  right = sym (c.if-misplaces.ensures g.V.Value.kind L c.args.expected.limit size)

  placed : (c.args.level < L.size) × (c.args.low < length c.args.self.now) × (c.args.high < length c.args.self.now)
  placed = node_placed g.V.Value.kind L c.args.expected.limit c.args.self.now c.args.level c.args.low c.args.high (sym right)

-- Rule 20 is kept.
stays : (g : given.Over) (c : goal.Else-drops g) (L : Layout) → Types L c.args.expected.types.now
    → is_broken 20 (node_rules g.V.Value.kind L c.args.expected.limit c.args.self.now c.args.level c.args.low c.args.high) ≡ false
stays g c L types =
    let p = placed g (goal.at.Else-drops g c).Else-misplaces L types.size in
    sym (c.if-drops.ensures (L.type c.args.level) c.len.ensures.apart (types.type_at c.args.level p.0))

pub returns-then-misplaces : goal.returns-then-misplaces
returns-then-misplaces g c = λ L types.
    rw (roomy g (goal.at.returns-then-misplaces g c).Else-len-expected, sym (c.if-misplaces.ensures g.V.Value.kind L c.args.expected.limit types.size)) refl

pub bounds-expected-level : goal.bounds-expected-level
bounds-expected-level g c = (placed g (goal.at.bounds-expected-level g c).Else-misplaces (begun (length c.args.expected.types.now)) refl).0

pub drops-requires : goal.drops-requires
drops-requires g c =
    let p = placed g (goal.at.drops-requires g c).Else-misplaces (begun (length c.args.expected.types.now)) refl in
    (p.1, p.2)

pub returns-then-drops : goal.returns-then-drops
returns-then-drops g c = λ L types.
    let p = placed g (goal.at.returns-then-drops g c).Else-misplaces L types.size in
    let dropped = c.if-drops.ensures (L.type c.args.level) c.len.ensures.apart (types.type_at c.args.level p.0) in
    rw (roomy g (goal.at.returns-then-drops g c).Else-len-expected, right g (goal.at.returns-then-drops g c).Else-misplaces L types.size, sym dropped) refl

pub returns-then-contains : goal.returns-then-contains
returns-then-contains g c = λ L types.
    let p = placed g (goal.at.returns-then-contains g c).Else-misplaces L types.size in
    rw (
      roomy g (goal.at.returns-then-contains g c).Else-len-expected,
      right g (goal.at.returns-then-contains g c).Else-misplaces L types.size,
      stays g (goal.at.returns-then-contains g c).Else-drops L types,
      sym (c.if-contains.ensures (p.1, p.2)),
    ) refl

pub returns : goal.returns
returns g c = λ L types.
    let p = placed g (goal.at.returns g c).Else-misplaces L types.size in
    rw (
      roomy g (goal.at.returns g c).Else-len-expected,
      right g (goal.at.returns g c).Else-misplaces L types.size,
      stays g (goal.at.returns g c).Else-drops L types,
      sym (c.if-contains.ensures (p.1, p.2)),
    ) refl
