use Rattle.diagrams.proofs.Measures.{spelled}
use Rattle.diagrams.proofs.spells_bytes.Goals as goal

pub returns : goal.returns
returns c = spelled
