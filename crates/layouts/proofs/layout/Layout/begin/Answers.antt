-- Levels and marks that stand for themselves are the layout that one begins with. Assumes nothing.
use Rattle.std.proofs.Common.{sym, ap, ◌∙◌, arith}
use Rattle.diagrams.specs.Layouts.{laid}
use Rattle.layouts.proofs.Laying.{begun_plan, begin_laid}
use Rattle.layouts.proofs.layout.Layout.begin.Goals as goal

pub returns : goal.returns
returns c =
    ap laid (begun_plan c.args.size c.plain_levels.result c.plain_places.result c.plain_levels.ensures c.plain_places.ensures)
    ∙ sym (begin_laid c.args.size (omega arith) (omega arith))
