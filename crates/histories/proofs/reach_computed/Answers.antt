-- What a sweep answers is computed from the table before it.
use Rattle.histories.proofs.Reaching.{reach_computed}
use Rattle.histories.proofs.reach_computed.Goals as goal

pub returns : goal.returns
returns c = reach_computed
