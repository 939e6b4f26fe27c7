use Rattle.std.proofs.Common.{◌≡◌, List, length, take}
use Rattle.diagrams.specs.Kinds.{Kind}
use Rattle.diagrams.specs.Layouts.{Layout}
use Rattle.diagrams.specs.Diagrams.{Diagram}
use Rattle.walks.specs.Orders.{collected}
use Rattle.reading.specs.Placing.{Ready}
use Rattle.reading.proofs.Placing.{Placed}
use Rattle.reading.proofs.fill.fill.Given as goal

-- The first records have their places.
abbrev pub invariant-loop-number : goal.invariant-loop-number
invariant-loop-number l =
    (K : Kind) (L : Layout) (seen : List Diagram) → Ready K L l.bytes l.records seen → length l.records ≡ length seen
    → Placed l.initial.places l.places (take l.number seen) (collected l.order)
