use Rattle.std.proofs.Common.{sym, refl, ap, ◌∙◌}
use Rattle.std.specs.Option.{ok_or}
use Rattle.std.proofs.lemmas.Result.{err_from_is_err_and}
use Rattle.journal_text.specs.declared.mistake.Mistake.TheVariants.{UnknownStore}
use Rattle.journal_words.specs.Requests as requests
use Rattle.journal_words.specs.Words.{left}
use Rattle.journal_words.specs.Verbs.{stores}
use Rattle.journal_words.proofs.Tables.{same_row}
use Rattle.journal_words.proofs.operands.StoreNameFromWords.take.Goals as goal

pub returns-in_err-parse : goal.returns-in_err-parse
returns-in_err-parse c =
    let bad = err_from_is_err_and c.from_residual-in_err-parse.result c.from_residual-in_err-parse.ensures.1 in
    rw (bad.1, bad.2)
    (ap (requests.first requests.Store) c.in_ok-word.ensures
    ∙ ap (λ r. requests.after r (λ s. requests.store_of s (left c.word.new.self))) (sym (c.in_err-parse.ensures.value ∙ ap (λ o. ok_or o UnknownStore) (same_row stores c.in_ok-word.field-0.now c.text.result.now refl c.text.ensures))))
