-- A record that is out of turn. Assumes nothing.
use Rattle.std.proofs.Common.{◌≡◌, false, sym, refl, ap, ◌∙◌}
use Rattle.diagrams.specs.Reading.{kind_of, in_turn}
use Rattle.sheets.proofs.Heading.{none_in_turn, out_of_turn}
use Rattle.sheets.proofs.record.Item.read.Goals as goal
use Rattle.sheets.proofs.record.Item.read.Goals.{in_default-via-in-Some+else-follows, in_default-via-in_default}

pub returns-in_default : goal.returns-in_default
returns-in_default c =
    let turn : in_turn c.args.count (kind_of c.args.bytes.now) ≡ false =
    elim c.in_default.branch [
      | in_default-via-in-Some+else-follows w ↦
          let kind = rw w.in-Some.is at c.in_ok-frame.ensures.kind_is in
          ap (in_turn c.args.count) (sym kind) ∙ sym w.if-follows.ensures
      | in_default-via-in_default w ↦ none_in_turn c.args.count (kind_of c.args.bytes.now) (rw w.in_default.is at c.in_ok-frame.ensures.kind_is)
    ] in
    rw c.at.ensures (record { refused = out_of_turn c.args.count c.args.bytes.now c.in_ok-frame.ensures.whole turn; there = refl })
