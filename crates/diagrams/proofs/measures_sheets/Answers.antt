use Rattle.diagrams.proofs.Measures.{measured}
use Rattle.diagrams.proofs.measures_sheets.Goals as goal

pub returns : goal.returns
returns c = measured
