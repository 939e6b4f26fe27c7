use Rattle.std.proofs.Common.{◌≡◌, ◌+◌, length, take}
use lib.Seq.{sets}
use Rattle.places.specs.Tables.{holds}
use Rattle.walks.specs.Orders.{collected}
use Rattle.writing.specs.Records.{entries}
use Rattle.writing.proofs.emit.put_records.Given as goal

abbrev pub invariant-loop-place : goal.invariant-loop-place
invariant-loop-place l =
    let done = entries (holds l.places) l.marks (take l.place-index (collected l.order)) in
    (l.out ≡ sets l.initial.out l.start done) × (l.at ≡ l.start + length done)
