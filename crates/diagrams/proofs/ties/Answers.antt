use Rattle.diagrams.proofs.Tying.{ties}
use Rattle.diagrams.proofs.ties.Goals as goal

pub returns : goal.returns
returns c = ties
