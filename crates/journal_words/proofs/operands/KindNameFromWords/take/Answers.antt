use Rattle.std.proofs.Common.{refl}
use Rattle.journal_text.specs.declared.mistake.Mistake.TheVariants.{UnknownKind}
use Rattle.journal_words.specs.Requests as requests
use Rattle.journal_words.specs.Verbs.{kinds}
use Rattle.journal_words.proofs.Taking.{table_part}
use Rattle.journal_words.proofs.operands.KindNameFromWords.take.Goals as goal

pub returns : goal.returns
returns c =
    table_part kinds UnknownKind requests.kind requests.Kind c.args.words.now c.word.new.self c.in_ok-word.field-0.now c.text.result.now c.parse.result
    (λ w ws. refl) refl c.in_ok-word.ensures c.text.ensures c.parse.ensures.value
