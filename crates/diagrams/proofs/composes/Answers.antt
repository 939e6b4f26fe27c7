use Rattle.diagrams.proofs.Composing.{builds}
use Rattle.diagrams.proofs.composes.Goals as goal

pub returns : goal.returns
returns c = builds
