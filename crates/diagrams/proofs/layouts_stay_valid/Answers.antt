use Rattle.diagrams.proofs.Settings.{stay_valid}
use Rattle.diagrams.proofs.layouts_stay_valid.Goals as goal

pub returns : goal.returns
returns c = stay_valid
