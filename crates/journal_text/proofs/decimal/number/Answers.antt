use Rattle.std.proofs.Common.{sym, ◌∙◌}
use Rattle.journal_text.proofs.Counting.{parsed}
use Rattle.journal_text.proofs.decimal.number.Goals as goal

pub returns : goal.returns
returns c = c.or.ensures ∙ parsed c.args.word.now c.text.result.now c.parse.result c.text.ensures (sym c.if-not-is_digits.ensures) c.parse.ensures.value.0
