-- What a record holds tells its diagram. Assumes nothing.
use Rattle.std.proofs.Common.{◌≡◌, subst}
use Rattle.diagrams.specs.Reading.{nth}
use Rattle.sheets.specs.Held.{Listed, Known, diagram_of}
use Rattle.sheets.proofs.Holding.{drawn_back}
use Rattle.sheets.proofs.records.Records.item.Goals as goal
use Rattle.sheets.proofs.records.Records.item.Goals.{After-item}

told : (c : goal.After-item) → (nth c.args.self.now c.args.i ≡ diagram_of c.args.self.now c.item.result) × Known c.args.i c.item.result
told c =
    let listed = subst (Listed c.self.inside.bytes.now c.self.inside.list.now) c.self.view_is c.self.invariant in
    drawn_back c.self.inside.bytes.now c.self.inside.list.now c.args.self.now listed.held c.args.i c.requires c.item.result (c.item.ensures c.args.self.now listed.held c.requires)

pub returns-clause-draws : goal.returns-clause-draws
returns-clause-draws c = (told (goal.at.returns-clause-draws c).After-item).0

pub returns-clause-earlier : goal.returns-clause-earlier
returns-clause-earlier c = (told (goal.at.returns-clause-earlier c).After-item).1
