use Rattle.std.proofs.Common.{arith}
use Rattle.std.proofs.lemmas.Grind.{common_steps}
use Rattle.diagrams.proofs.Tallies.{tally_more}
use Rattle.places.proofs.keep.sweep.Goals as goal

pub loop-h-preserved : goal.loop-h-preserved
loop-h-preserved c = record {
  size = grind (arith, common_steps);
  below = λ k lt. grind (arith, common_steps);
  rest = λ k le. grind (arith, common_steps);
  many = grind (arith, common_steps, tally_more);
  most = grind (arith, common_steps);
}
