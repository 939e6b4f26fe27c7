-- The records of the list are those that were read. Assumes nothing.
use Rattle.std.proofs.Common.{sym, subst}
use Rattle.sheets.specs.Held.{Listed}
use Rattle.sheets.proofs.Holding.{drawn_seen}
use Rattle.sheets.proofs.records.Records.new.Goals as goal

pub invariant_of-result : goal.invariant_of-result
invariant_of-result c =
    subst (Listed c.args.bytes.now c.args.list.now) (sym (drawn_seen c.args.bytes.now c.args.list.now c.requires.0 c.requires.1)) c.requires.1

pub returns : goal.returns
returns c = drawn_seen c.args.bytes.now c.args.list.now
