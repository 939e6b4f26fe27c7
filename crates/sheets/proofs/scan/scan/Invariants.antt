-- Up to the byte place that is reached, the sheet is read; the rest of the list stays. Assumes nothing.
use Rattle.std.proofs.Common.{◌≡◌, ◌-◌, drop}
use Rattle.diagrams.specs.Layouts.{Layout}
use Rattle.sheets.specs.Scanned.{Suits, Begun, At}
use Rattle.sheets.proofs.scan.scan.Given as goal

abbrev pub invariant-loop-next : goal.invariant-loop-next
invariant-loop-next g l =
    ((L : Layout) → Suits g.V.Value.kind L l.expected.head.now l.expected.types.now l.expected.limit → Begun g.V.Value.kind L l.bytes
    → At g.V.Value.kind L l.expected.limit l.bytes l.reached.place l.reached.count l.list)
    × (drop l.expected.limit l.list ≡ drop l.expected.limit l.initial.list)

abbrev pub decreases-loop-next : goal.decreases-loop-next
decreases-loop-next g l = l.expected.limit - l.reached.count
