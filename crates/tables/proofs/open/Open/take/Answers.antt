use Rattle.std.proofs.Common.{Ok, Err, sym, refl, subst}
use Rattle.layouts.specs.View.{view}
use Rattle.reading.specs.Reads.{Reads}
use Rattle.tables.specs.Reading.{Left}
use Rattle.tables.proofs.open.Open.take.Goals as goal

pub returns-in-Ok-clause-table : goal.returns-in-Ok-clause-table
returns-in-Ok-clause-table g c = record {
  layout = refl;
  filled = c.read.new.places;
  reads = subst (λ h. Reads g.K.Value.kind (view c.args.self.now.layout) c.args.self.now.places c.read.new.places c.args.bytes.now c.args.walk.now (Ok h))
      (sym c.from.ensures) c.in-Ok.ensures.answer;
  left = (refl, refl);
}

pub returns-in-Err-clause-table : goal.returns-in-Err-clause-table
returns-in-Err-clause-table g c = record {
  layout = c.turn_back.ensures.layout;
  filled = c.read.new.places;
  reads = c.in-Err.ensures.answer;
  left = subst
      (λ t. Left t c.read.new.places (g.S.Store.entries c.args.self.now.store) c.turn_back.new.self.places (g.S.Store.entries c.turn_back.new.self.store) (Err c.in-Err.fault))
      c.save-saved.ensures c.turn_back.ensures.left;
}
