-- None of the records has the diagram that is wanted, or one has. Assumes nothing.
use Rattle.std.proofs.Common.{◌≡◌, length, refl, arith, rules, tests}
use Rattle.std.proofs.lemmas.Iterator.{YieldsList-from_range, cases_from_any}
use Rattle.diagrams.specs.Reading.{nth}
use Rattle.sheets.specs.Held.{diagram_of}
use Rattle.sheets.proofs.Holding.{among_told}
use Rattle.sheets.proofs.records.Records.contains.Goals as goal

pub returns : goal.returns
returns c = λ known.
    let seen = c.args.self.now in
    let d = diagram_of seen c.args.wanted in
    among_told seen d c.any.result
    (cases_from_any _ _ c.any.result (λ i. nth seen i ≡ d) (λ i. ¬ (nth seen i ≡ d)) c.any.ensures.ran
    (YieldsList-from_range 0 (length seen) (length seen) (rw c.len.ensures.count refl) (omega arith)) (λ x q k. search (rules, tests)) (λ x q k. search (rules, tests)))
