-- Two steps from one table and one request leave one table and one pair of lists.
use Rattle.histories.proofs.Outcomes.{all_alike_after}
use Rattle.histories.proofs.one_outcome_after.Goals as goal

pub returns : goal.returns
returns c = all_alike_after
