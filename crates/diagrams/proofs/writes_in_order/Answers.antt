use Rattle.diagrams.proofs.Measures.{ordered}
use Rattle.diagrams.proofs.writes_in_order.Goals as goal

pub returns : goal.returns
returns c = ordered
