use Rattle.diagrams.proofs.Canon.{canonical}
use Rattle.diagrams.proofs.canonicity.Goals as goal

pub returns : goal.returns
returns c = canonical
