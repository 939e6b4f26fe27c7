use Rattle.std.proofs.Common.{◌≡◌, ◌<◌, ◌∷◌, length, ap, rules, arith, true-eqb, false-eqb}
use Rattle.journal_words.specs.Words.{words}
use Rattle.journal_words.proofs.Scanning.{no_words, next_word}
use Rattle.journal_words.proofs.words.WordsIterator.next.Goals as goal

pub returns-then-is_empty-clause-steps : goal.returns-then-is_empty-clause-steps
returns-then-is_empty-clause-steps c =
    let none = no_words c.args.self.now.rest.now c.split_run.result.1.now c.split_run.ensures.back (true-eqb _ 0 c.if-is_empty.ensures) in (none, none)

pub returns-clause-steps : goal.returns-clause-steps
returns-clause-steps c =
    let text = c.split_run.result.1.now in
    let some : 0 < length text = omega (arith, false-eqb (length text) 0 c.if-is_empty.ensures) in
    next_word c.args.self.now.rest.now text _ _ c.split_run.ensures.back some c.split_run-2.ensures.front c.split_run-2.ensures.back

pub returns-clause-goes : goal.returns-clause-goes
returns-clause-goes c =
    let text = c.split_run.result.1.now in
    let some : 0 < length text = omega (arith, false-eqb (length text) 0 c.if-is_empty.ensures) in
    let step : words c.args.self.now.rest.now ≡ c.split_run-2.result.0.now ∷ words c.split_run-2.result.1.now = next_word c.args.self.now.rest.now text _ _ c.split_run.ensures.back some c.split_run-2.ensures.front c.split_run-2.ensures.back in
    search (rules, ap length step)
