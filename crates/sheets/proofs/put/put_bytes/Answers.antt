-- Bytes that replace as many. Assumes nothing.
use Rattle.std.proofs.Common.{◌≡◌, ◌+◌, ◌-◌, length, take, drop, sym, arith}
use Rattle.std.proofs.lemmas.List.{append_assoc, drop-drop}
use Rattle.std.proofs.lemmas.List.Edits.{sets-eq}
use Rattle.sheets.proofs.put.put_bytes.Goals as goal

pub returns-clause-bytes : goal.returns-clause-bytes
returns-clause-bytes c =
    let many : c.args.place + length c.args.bytes.now - c.args.place ≡ length c.args.bytes.now = omega arith in
    rw (
      c.copy_from_slice.ensures.after,
      many,
      drop-drop (length c.args.bytes.now) c.args.place c.args.out.now,
      ← append_assoc (take c.args.place c.args.out.now) c.args.bytes.now (drop (c.args.place + length c.args.bytes.now) c.args.out.now),
    )
    (sym (sets-eq c.args.bytes.now c.args.out.now c.args.place c.requires))
