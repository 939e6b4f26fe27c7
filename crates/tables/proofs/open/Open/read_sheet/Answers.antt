use Rattle.std.proofs.Common.{◌<◌, w8}
use mir.Facts.{Fits-lt-pow}
use Rattle.std.proofs.ByRecursion.{All-from_get_or}
use Rattle.histories.proofs.Reachability.{keeps}
use Rattle.layouts.specs.View.{view}
use Rattle.tables.proofs.Lawfulness.{lawful}
use Rattle.tables.proofs.Reading.{took_step, reads_comes}
use Rattle.tables.proofs.open.Open.read_sheet.Goals as goal

pub returns : goal.returns
returns g c =
    let K = g.K.Value.kind in
    let start = c.args.self.now in
    let ok = lawful g.K.Value.laws start.layout in
    let bytes = All-from_get_or (λ b. b < 256) c.args.bytes.now 0 (λ i _. Fits-lt-pow {w = w8} (c.type_inv.bytes i)) in
    record {
      step = keeps ok (λ sound.
          took_step K g.S.Store.entries start c.take.new.self c.args.bytes.now c.args.walk.now c.take.new.walk c.take.result ok sound c.take.ensures.list bytes
          c.take.ensures.table);
      comes = reads_comes K (view start.layout) start.places c.take.ensures.table.filled c.args.bytes.now c.args.walk.now c.take.result
          c.take.ensures.table.reads;
    }
