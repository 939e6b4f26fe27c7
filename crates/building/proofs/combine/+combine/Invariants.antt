use Rattle.std.proofs.Common.{◌-◌}
use Rattle.building.specs.Shortcuts.{floor}
use Rattle.building.proofs.combine.+combine.Given as goal

abbrev pub decreases-combine : goal.decreases-combine
decreases-combine g l = 32 - floor l.places.now l.a l.b
