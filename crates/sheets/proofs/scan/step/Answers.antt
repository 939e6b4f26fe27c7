-- One more record: a fault, the end, or a step onward. Assumes nothing.
use Rattle.std.proofs.Common.{◌+◌, ◌<◌, set, refl, ap, ◌∙◌, arith, w8}
use mir.Facts.{Fits-lt-pow, Fits-below}
use Rattle.std.proofs.lemmas.Result.{err_from_is_err_and}
use Rattle.std.proofs.lemmas.List.{drop-set-lt}
use Rattle.diagrams.specs.Layouts.{Layout}
use Rattle.sheets.specs.Judged.{stands_for}
use Rattle.sheets.specs.Scanned.{Suits, At}
use Rattle.sheets.proofs.Scanning.{bytes_small, Sized, listed, near, breaks, ends, item_onto}
use Rattle.sheets.proofs.scan.step.Given as given
use Rattle.sheets.proofs.scan.step.Goals as goal
use Rattle.sheets.proofs.scan.step.Goals.{Joined-branch-2, in-Leaf, in-Node}

pub next-requires-clause-read : goal.next-requires-clause-read
next-requires-clause-read g c =
    let suits = c.requires.reads.1 in
    let at = c.requires.reads.2 in
    (at.seen, listed suits.lawful suits.small at c.requires.room)

pub returns-in_err-next-clause-reads : goal.returns-in_err-next-clause-reads
returns-in_err-next-clause-reads g c = λ L suits at.
    let q = err_from_is_err_and c.from_residual.result c.from_residual.ensures.1 in
    rw (q.1, q.2)
    (breaks suits.lawful suits.small at c.requires.room
    c.in_err-next.field-0.0 (c.in_err-next.ensures L at.seen suits.types_are (listed suits.lawful suits.small at c.requires.room)))

pub returns-in-End-clause-reads : goal.returns-in-End-clause-reads
returns-in-End-clause-reads g c = λ L suits at.
    let all = bytes_small c.args.bytes.now (λ i. Fits-lt-pow {w = w8} (c.type_inv.bytes i)) in
    ends suits.lawful suits.small at c.requires.room all
    (c.in_ok-next.ensures L at.seen suits.types_are (listed suits.lawful suits.small at c.requires.room) ∙ ap (stands_for at.seen) c.in-End.is)

pub overflow_cast-list : goal.overflow_cast-list
overflow_cast-list g c =
    let suits = c.requires.reads.1 in
    Fits-below {n = 600000} tt (near suits.lawful suits.small c.requires.reads.2 c.requires.room)

-- The step onward over a leaf or node.
onward : (g : given.Over) (c : goal.Joined-branch-2 g) (L : Layout)
    → Suits g.V.Value.kind L c.args.expected.head.now c.args.expected.types.now c.args.expected.limit
    → At g.V.Value.kind L c.args.expected.limit c.args.bytes.now c.args.reached.place c.args.reached.count c.args.list.now
    → (c.args.reached.count < c.args.expected.limit)
    × At g.V.Value.kind L c.args.expected.limit c.args.bytes.now (c.args.reached.place + c.match-branch-2.size) (c.args.reached.count + 1)
    (set c.args.list.now c.args.reached.count c.args.reached.place)
onward g c L suits at =
    let all = bytes_small c.args.bytes.now (λ i. Fits-lt-pow {w = w8} (c.type_inv.bytes i)) in
    let sized : Sized c.in_ok-next.field-0 c.match-branch-2.size =
    elim c.match-branch-2.branch [ in-Leaf w ↦ rw w.in-Leaf.is w.size-is | in-Node w ↦ rw w.in-Node.is w.size-is ] in
    item_onto suits.lawful suits.small at c.requires.room all
    c.in_ok-next.field-0 c.match-branch-2.size sized (c.in_ok-next.ensures L at.seen suits.types_are (listed suits.lawful suits.small at c.requires.room))

pub bounds-list-reached : goal.bounds-list-reached
bounds-list-reached g c =
    omega (arith, (onward g (goal.at.bounds-list-reached g c).Joined-branch-2 c.requires.reads.0 c.requires.reads.1 c.requires.reads.2).0, c.requires.room)

pub returns-clause-reads : goal.returns-clause-reads
returns-clause-reads g c = λ L suits at. (refl, (onward g (goal.at.returns-clause-reads g c).Joined-branch-2 L suits at).1)

pub returns-clause-past : goal.returns-clause-past
returns-clause-past g c =
    drop-set-lt c.args.expected.limit c.args.list.now c.args.reached.count c.args.reached.place
    (onward g (goal.at.returns-clause-past g c).Joined-branch-2 c.requires.reads.0 c.requires.reads.1 c.requires.reads.2).0
