-- The type is set on the mark's level. Assumes nothing.
use Rattle.std.proofs.Common.{sym, ap, ◌∙◌, arith}
use Rattle.diagrams.specs.Layouts.{laid}
use Rattle.layouts.specs.Levels.{level_of}
use Rattle.layouts.specs.View.{view}
use Rattle.layouts.proofs.Laying.{formed_is, level_below, same_mark, retyped_plan, set_type_laid}
use Rattle.layouts.proofs.layout.Layout.set_type.Goals as goal

pub bounds-self-level : goal.bounds-self-level
bounds-self-level c = level_below c.args.self.now c.args.mark (omega arith) (omega arith) (omega arith)

pub invariant_of-self : goal.invariant_of-self
invariant_of-self c =
    let y = c.args.self.now in
    let same = same_mark y c.args.mark (omega arith) (omega arith) (omega arith) c.in_ok-form.form in
    record {
      some = y.some;
      most = y.most;
      marked = λ l h. rw (same l) (y.marked l h);
      levelled = y.levelled;
      onto = λ l. ap (level_of y.places) (same l) ∙ y.onto l;
      back = λ i. same (level_of y.places i) ∙ y.back i;
    }

pub returns-clause-answer : goal.returns-clause-answer
returns-clause-answer c =
    let y = c.args.self.now in
    let form = c.in_ok-form.form in
    let known = formed_is c.args.number form (sym c.in_ok-form.was ∙ c.try_from.ensures) in
    ap laid (retyped_plan y c.args.mark (omega arith) (omega arith) (omega arith) form _ known.1)
    ∙ sym (set_type_laid c.args.mark c.args.number (view y) (omega arith) known.0)
