-- What reading an operand leaves of a line's words. Assumes nothing.
use Rattle.std.specs.Prelude.{◌≡◌, List, Ok, Err, Result, MatchResult}
use Rattle.journal_text.specs.declared.mistake.Mistake.{Mistake}
use Rattle.journal_words.specs.declared.words.Words.{Words}
use Rattle.journal_words.specs.Requests.{Slot, Part, first, taken, answered}
use Rattle.journal_words.specs.Words.{left}

-- r is the first operand, which takes `before` to `later`, or the mistake in it
abbrev pub Takes : {A : Type 0} → (A → Part) → Slot → Words → Result A Mistake → Words → Type 0
Takes asPart s before r later = MatchResult r (λ x. first s (left before) ≡ Ok (asPart x, left later)) (λ e. first s (left before) ≡ Err e)

-- r is all the operands, or the first mistake in them
abbrev pub Reads : {A : Type 0} → (A → List Part) → List Slot → Words → Result A Mistake → Type 0
Reads asParts ss ws r = answered asParts r ≡ taken ss (left ws)
