use Rattle.std.proofs.Common.{sym, subst}
use Rattle.walks.specs.Walks.{Swept}
use Rattle.walks.proofs.Keeping.{marked_keeps, freed_swept}
use Rattle.walks.proofs.sweeping.swept.Goals as goal

pub free_unmarked-requires-clause-keeps : goal.free_unmarked-requires-clause-keeps
free_unmarked-requires-clause-keeps c = marked_keeps c.args.places.now c.mark_kept.new.marks c.mark_kept.ensures

pub returns-clause-answer : goal.returns-clause-answer
returns-clause-answer c =
    let before = c.args.places.now in
    let after = c.free_unmarked.new.self in
    subst (Swept before after) (sym c.from.ensures)
    (freed_swept before c.mark_kept.new.marks c.mark_kept.ensures after c.free_unmarked.result c.free_unmarked.ensures)
