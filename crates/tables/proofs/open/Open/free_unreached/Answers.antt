use Rattle.histories.proofs.Reachability.{keeps}
use Rattle.tables.proofs.Lawfulness.{lawful}
use Rattle.tables.proofs.Sweeping.{cleaned_step}
use Rattle.tables.proofs.open.Open.free_unreached.Goals as goal

pub returns : goal.returns
returns g c =
    let start = c.args.self.now in
    keeps (lawful g.K.Value.laws start.layout)
    (λ sound. cleaned_step g.K.Value.kind g.S.Store.entries start c.clean.new.self c.args.walk.now c.clean.new.walk c.clean.result sound
    c.clean.ensures.list c.clean.ensures.table)
