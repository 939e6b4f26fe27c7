use Rattle.std.proofs.Common.{refl, ap, ◌∙◌}
use Rattle.std.specs.Option.{ok_or}
use Rattle.journal_text.specs.declared.mistake.Mistake.TheVariants.{UnknownCommand}
use Rattle.journal_words.specs.Requests.{begun}
use Rattle.journal_words.specs.Verbs.{verbs}
use Rattle.journal_words.proofs.Tables.{same_row}
use Rattle.journal_words.proofs.asking.begin.Goals as goal

pub returns : goal.returns
unfolding begun
returns c = c.parse.ensures.value ∙ ap (λ o. ok_or o UnknownCommand) (same_row verbs c.args.word.now c.text.result.now refl c.text.ensures)
