-- The length, the kind and the body, one right after another. Assumes nothing.
use Rattle.std.proofs.Common.{◌++◌, length, arith}
use Rattle.diagrams.specs.Sheets.{two}
use Rattle.sheets.specs.Codes.{code}
use Rattle.sheets.proofs.Joining.{sets_then}
use Rattle.sheets.proofs.put.put_record.Goals as goal

pub returns-clause-bytes : goal.returns-clause-bytes
returns-clause-bytes c =
    let size = two (length c.args.body.now) in
    let kind = two (code c.args.kind) in
    let second = rw c.code.ensures at c.put_two-body_place.ensures.bytes in
    let head = sets_then c.args.out.now _ c.args.place c.put_two-kind_place.result size kind c.put_two-kind_place.ensures.bytes c.put_two-kind_place.ensures.after _ second in
    sets_then c.args.out.now _ c.args.place c.put_two-body_place.result (size ++ kind) c.args.body.now head (omega arith) _ c.put_bytes.ensures.bytes
