use Rattle.std.proofs.Common.{◌≡◌, ℕ, List, [], ◌++◌, length, ◌∙◌, ap₂}
use lib.Seq.{sets}
use Rattle.diagrams.specs.Sheets.{visited, two, record_of}
use Rattle.places.specs.Tables.{holds}
use Rattle.walks.specs.Orders.{collected}
use Rattle.walks.proofs.Standing.{stand_length}
use Rattle.sheets.proofs.Joining.{sets_then, place_then}
use Rattle.writing.specs.Records.{body}
use Rattle.writing.proofs.sheet.put_sheet.Goals as goal

pub returns : goal.returns
returns c = λ d w.
    let out = c.args.out.now in
    let first = c.put_head-after_head.ensures in
    let next = c.put_records-after_records.ensures in
    let count : c.len.result ≡ length (visited d []) = c.len.ensures.value ∙ stand_length (holds c.args.places.now) (collected c.args.order.now) (visited d []) w.stand in
    let head : List ℕ = record_of 1 c.as_slice.result.now in
    sets_then out c.put_records-after_records.new.out 0 c.put_records-after_records.result (head ++ body d) (record_of 4 (two c.len.result))
    (sets_then out c.put_head-after_head.new.out 0 c.put_head-after_head.result head (body d) first.bytes first.after c.put_records-after_records.new.out (next.bytes d w))
    (place_then out c.put_head-after_head.new.out 0 c.put_head-after_head.result head (body d) first.bytes first.after c.put_records-after_records.result (next.after d w))
    c.put_end.new.out c.put_end.ensures.bytes
    ∙ ap₂ (λ (bytes : List ℕ) (n : ℕ). sets out 0 (record_of 1 bytes ++ body d ++ record_of 4 (two n))) c.as_slice.ensures.value count
