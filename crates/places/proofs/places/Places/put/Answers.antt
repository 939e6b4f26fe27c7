use Rattle.places.proofs.Filled.{filled}
use Rattle.places.proofs.places.Places.put.Goals as goal

pub invariant_of-self : goal.invariant_of-self
invariant_of-self c =
    filled c.args.self.now c.args.content c.from.result c.fill.new.self c.fill.ensures c.requires.used c.requires.deep c.requires.absent (rw c.from.ensures c.requires.spare)
