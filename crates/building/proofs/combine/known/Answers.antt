use Rattle.building.proofs.Beginning.{short_known, stored_known}
use Rattle.building.proofs.combine.known.Goals as goal

pub returns-in-Some : goal.returns-in-Some
returns-in-Some g c = short_known (g.S.Store.entries c.args.store.now) c.in-Some.answer c.in-Some.ensures

pub returns : goal.returns
returns g c = stored_known (g.S.Store.entries c.args.store.now) c.requires.level c.key.ensures c.ask.ensures c.in_ok-stored.ensures
