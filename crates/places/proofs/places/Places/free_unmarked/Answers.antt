use Rattle.std.proofs.Common.{refl}
use Rattle.places.proofs.Swept.{swept_rules, swept_freed}
use Rattle.places.proofs.places.Places.free_unmarked.Goals as goal

pub invariant_of-self : goal.invariant_of-self
invariant_of-self c =
    swept_rules c.args.self.now c.args.marks.now c.requires.room c.requires.keeps c.sweep.new.slots c.sweep.result
    (rw c.from.ensures at c.sweep.ensures)

pub returns : goal.returns
returns c =
    swept_freed c.args.self.now c.args.marks.now c.requires.room c.requires.keeps c.sweep.new.slots c.sweep.result
    (rw c.from.ensures at c.sweep.ensures) _ refl refl
