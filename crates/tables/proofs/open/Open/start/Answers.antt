use Rattle.std.proofs.Common.{◌∙◌}
use Rattle.histories.proofs.Lasting.{all_lasting}
use Rattle.layouts.specs.View.{view}
use Rattle.layouts.proofs.Laying.{capacity_within}
use Rattle.tables.proofs.Making.{read_made}
use Rattle.tables.proofs.open.Open.start.Goals as goal

pub returns-clause-made : goal.returns-clause-made
returns-clause-made g c =
    read_made g.K.Value.kind (view c.args.layout) (g.S.Store.entries c.forget.new.self) c.fresh-places.result c.args.capacity.places c.get.result
    c.ZERO.result c.ONE.result (capacity_within c.args.capacity) c.get.ensures (c.ZERO.ensures ∙ g.met.K.Value.zero_of_kind) (c.ONE.ensures ∙ g.met.K.Value.one_of_kind) c.fresh-places.ensures c.forget.ensures

pub returns-clause-sameness : goal.returns-clause-sameness
returns-clause-sameness g c = all_lasting
