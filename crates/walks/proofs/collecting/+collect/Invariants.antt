use Rattle.std.proofs.Common.{◌-◌}
use Rattle.places.specs.Contents.{depth}
use Rattle.places.specs.Tables.{holds}
use Rattle.walks.proofs.collecting.+collect.Given as goal

abbrev pub decreases-collect : goal.decreases-collect
decreases-collect l = 32 - depth (holds l.places.now l.place)
