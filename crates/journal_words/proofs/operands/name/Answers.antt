use Rattle.std.proofs.Common.{sym, ap, ◌∙◌}
use Rattle.std.specs.Option.{option_map}
use Rattle.journal_words.proofs.Naming.{named}
use Rattle.journal_words.proofs.operands.name.Goals as goal

pub returns-then-is_name : goal.returns-then-is_name
returns-then-is_name c = ap (option_map (λ x. x.now)) c.ok.ensures.value ∙ named _ c.args.word.now c.from_utf8.result (sym c.if-is_name.ensures) c.from_utf8.ensures.cases
