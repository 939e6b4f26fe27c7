use Rattle.std.proofs.Common.{ap, ◌∙◌}
use Rattle.journal_text.specs.Hex.{hex_of}
use Rattle.journal_words.specs.Requests as requests
use Rattle.journal_words.proofs.Taking.{unlooked}
use Rattle.journal_words.proofs.operands.HexFromWords.take.Goals as goal

pub returns : goal.returns
returns c = ap (requests.first requests.Hex) c.in_ok-word.ensures ∙ unlooked (hex_of c.in_ok-word.word.now) _ c.in_ok-check_hex.ensures
