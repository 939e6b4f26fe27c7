use Rattle.std.proofs.Common.{arith}
use Rattle.std.proofs.lemmas.Grind.{common_steps}
use Rattle.places.proofs.Recounted.{recounted}
use Rattle.places.proofs.places.Places.let_go.Goals as goal

pub invariant_of-self : goal.invariant_of-self
invariant_of-self c = recounted c.args.self.now c.from.result c.let_go.new.self (rw c.from.ensures c.requires) (grind (arith, common_steps, c.let_go.ensures))
