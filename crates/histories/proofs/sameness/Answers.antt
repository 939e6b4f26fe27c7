-- What is true of every history, and of any two.
use Rattle.histories.proofs.Lasting.{all_lasting}
use Rattle.histories.proofs.sameness.Goals as goal

pub returns : goal.returns
returns c = all_lasting
