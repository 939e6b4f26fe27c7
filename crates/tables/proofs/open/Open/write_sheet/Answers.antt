use Rattle.histories.specs.Tables.{opened}
use Rattle.histories.proofs.Reachability.{keeps}
use Rattle.layouts.specs.View.{view}
use Rattle.tables.proofs.Lawfulness.{lawful}
use Rattle.tables.proofs.Looking.{written_step}
use Rattle.tables.proofs.open.Open.write_sheet.Goals as goal

pub returns : goal.returns
returns g c =
    let start = c.args.self.now in
    keeps (lawful g.K.Value.laws start.layout)
    (λ sound. written_step g.K.Value.kind (view start.layout) (g.S.Store.entries start.store) opened start.places c.args.handle c.args.walk.now
    c.write.new.walk c.args.output.now sound c.write.ensures.list c.write.new.output c.write.result c.write.ensures.answer)
