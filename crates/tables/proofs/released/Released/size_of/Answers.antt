use Rattle.histories.specs.Tables.{released}
use Rattle.histories.proofs.Reachability.{keeps}
use Rattle.layouts.specs.View.{view}
use Rattle.tables.proofs.Lawfulness.{lawful}
use Rattle.tables.proofs.Looking.{sized_step}
use Rattle.tables.proofs.released.Released.size_of.Goals as goal

pub returns : goal.returns
returns g c =
    let start = c.args.self.now in
    keeps (lawful g.K.Value.laws start.layout)
    (λ sound. sized_step g.K.Value.kind (view start.layout) (g.S.Store.entries start.store) released start.places c.args.handle c.args.walk.now
    c.size.new.walk c.size.result sound c.size.ensures.list c.size.ensures.answer)
