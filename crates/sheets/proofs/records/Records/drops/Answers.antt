-- On a Shannon level low and high are one record where they stand for one diagram. Assumes nothing.
use Rattle.std.proofs.Common.{sym, ◌∙◌}
use Rattle.sheets.proofs.Holding.{shannon_drops}
use Rattle.sheets.proofs.records.Records.drops.Goals as goal

pub returns-then-form-eq0 : goal.returns-then-form-eq0
returns-then-form-eq0 g c = λ t apart e.
    shannon_drops g.V.Value.kind t c.args.self.now apart c.args.low c.args.high c.requires.0 c.requires.1 (sym e ∙ c.if-form-eq0.true)
