use Rattle.diagrams.proofs.Deeper.{deepens}
use Rattle.diagrams.proofs.deepens.Goals as goal

pub returns : goal.returns
returns c = deepens
