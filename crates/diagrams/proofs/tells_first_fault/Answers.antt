use Rattle.diagrams.proofs.Whole.{first_faults}
use Rattle.diagrams.proofs.tells_first_fault.Goals as goal

pub returns : goal.returns
returns c = first_faults
