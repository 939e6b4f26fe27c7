-- Two steps from one table and one request agree.
use Rattle.histories.proofs.Outcomes.{all_alike}
use Rattle.histories.proofs.one_outcome.Goals as goal

pub returns : goal.returns
returns c = all_alike
