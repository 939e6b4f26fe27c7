use Rattle.diagrams.proofs.Measures.{low_first}
use Rattle.diagrams.proofs.low_first.Goals as goal

pub returns : goal.returns
returns c = low_first
