-- The children that a node's type and mark choose are opened. Assumes nothing.
use Rattle.std.proofs.Common.{◌∙◌}
use Rattle.grading.proofs.walk.visit.Goals as goal

pub returns-in-Node : goal.returns-in-Node
returns-in-Node g c = record {
  gives = rw (← c.in-Node.ensures) (c.ZERO.ensures ∙ g.met.K.Value.zero_of_kind);
  opens = rw (← c.in-Node.ensures) (cc (c.turn-turn.ensures c.in-Node.low c.in-Node.high));
}
