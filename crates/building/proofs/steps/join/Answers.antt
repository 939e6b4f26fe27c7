use Rattle.std.proofs.Common.{sym, ap, ◌∙◌}
use Rattle.building.specs.Parts.{spared}
use Rattle.building.proofs.Finishing.{noded_joined}
use Rattle.building.proofs.steps.join.Goals as goal

pub returns : goal.returns
returns c =
    noded_joined _ _ _ _ _ _ _ (λ e. c.if-high-spare.false (e ∙ sym (c.spare.ensures ∙ ap (λ s. spared s c.args.low) c.form.ensures))) c.node.ensures
