use Rattle.diagrams.proofs.Results.{only}
use Rattle.diagrams.proofs.only_answer.Goals as goal

pub returns : goal.returns
returns c = only
