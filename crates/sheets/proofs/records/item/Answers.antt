-- The record stands where the list says. Assumes nothing.
use Rattle.std.proofs.Common.{◌≡◌, ℕ, List, ◌∙◌, arith}
use Rattle.diagrams.specs.Reading.{kind_of}
use Rattle.sheets.proofs.Holding.{lent, inside, lent_long, lent_shows}
use Rattle.sheets.proofs.records.item.Goals as goal

pub slice_bounds-record-count : goal.slice_bounds-record-count
slice_bounds-record-count c = inside c.args.bytes.now c.args.list.now c.requires.0 c.requires.1 c.args.i c.requires.2

pub slice_bounds-record-start : goal.slice_bounds-record-start
slice_bounds-record-start c = omega (arith, inside c.args.bytes.now c.args.list.now c.requires.0 c.requires.1 c.args.i c.requires.2)

pub bounds-record-2 : goal.bounds-record-2
bounds-record-2 c = omega (arith, (lent_long c.args.bytes.now c.args.list.now c.requires.0 c.requires.1 c.args.i c.requires.2).0)

pub bounds-record-3 : goal.bounds-record-3
bounds-record-3 c = omega (arith, (lent_long c.args.bytes.now c.args.list.now c.requires.0 c.requires.1 c.args.i c.requires.2).0)

pub of_kind-requires : goal.of_kind-requires
of_kind-requires c =
    let bytes = c.args.bytes.now in
    let list = c.args.list.now in
    let there : List ℕ = lent bytes list c.requires.0 c.requires.1 c.args.i c.requires.2 in
    let kind : c.from_le_bytes.result ≡ kind_of there = omega (arith, c.from_le_bytes.ensures) in
    rw kind (lent_long bytes list c.requires.0 c.requires.1 c.args.i c.requires.2).1

pub returns : goal.returns
returns c = λ seen held h.
    let bytes = c.args.bytes.now in
    let list = c.args.list.now in
    let there : List ℕ = lent bytes list seen held c.args.i h in
    let kind : c.from_le_bytes.result ≡ kind_of there = omega (arith, c.from_le_bytes.ensures) in
    c.of_kind.ensures ∙ rw kind (lent_shows bytes list seen held c.args.i h)
