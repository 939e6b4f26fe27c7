-- Records by number and by diagram are the same where numbers are told apart. Assumes nothing.
use Rattle.std.proofs.Common.{◌≡◌, true, ◌∙◌, ap, rules}
use Rattle.sheets.specs.Held.{diagram_of}
use Rattle.sheets.proofs.Holding.{same_there}
use Rattle.sheets.proofs.records.Records.holds.Goals as goal

pub returns : goal.returns
returns c = λ known.
    let seen = c.args.self.now in
    let told : c.eq.result ≡ true → c.item.result ≡ c.args.wanted = search rules in
    let tells : c.item.result ≡ c.args.wanted → c.eq.result ≡ true = search rules in (
      λ yes. c.item.ensures.draws ∙ ap (diagram_of seen) (told yes),
      λ q. tells (same_there seen c.item.ensures.apart c.args.i c.requires c.item.result c.args.wanted c.item.ensures.draws c.item.ensures.earlier known q),
    )
