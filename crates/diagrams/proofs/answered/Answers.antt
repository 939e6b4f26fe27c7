use Rattle.diagrams.proofs.Results.{answered}
use Rattle.diagrams.proofs.answered.Goals as goal

pub returns : goal.returns
returns c = answered
