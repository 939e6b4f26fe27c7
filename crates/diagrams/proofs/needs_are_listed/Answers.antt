use Rattle.diagrams.proofs.Listed.{lists}
use Rattle.diagrams.proofs.needs_are_listed.Goals as goal

pub returns : goal.returns
returns c = lists
