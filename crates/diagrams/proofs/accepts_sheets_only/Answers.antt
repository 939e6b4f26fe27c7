use Rattle.diagrams.proofs.Whole.{accepts}
use Rattle.diagrams.proofs.accepts_sheets_only.Goals as goal

pub returns : goal.returns
returns c = accepts
