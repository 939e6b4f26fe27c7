use Rattle.building.proofs.Marking.{constant_works}
use Rattle.building.proofs.simple.constant.Goals as goal

pub returns : goal.returns
returns c K L ok = constant_works K L ok c.args.word _ _ _ c.leaf.ensures ok
