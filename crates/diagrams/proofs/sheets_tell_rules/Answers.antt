use Rattle.diagrams.proofs.Whole.{faithful}
use Rattle.diagrams.proofs.sheets_tell_rules.Goals as goal

pub returns : goal.returns
returns c = faithful
