use Rattle.std.proofs.Common.{◌-◌}
use Rattle.places.specs.Contents.{depth}
use Rattle.places.specs.Tables.{holds}
use Rattle.building.proofs.restrict.+restrict.Given as goal

abbrev pub decreases-restrict : goal.decreases-restrict
decreases-restrict g l = 32 - depth (holds l.places.now l.h)
