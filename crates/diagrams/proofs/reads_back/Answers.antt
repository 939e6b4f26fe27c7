use Rattle.diagrams.proofs.Whole.{writes_back}
use Rattle.diagrams.proofs.reads_back.Goals as goal

pub returns : goal.returns
returns c = writes_back
