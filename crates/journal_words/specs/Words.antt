-- The words of a text. Assumes nothing.
use Rattle.std.specs.Prelude.{ℕ, cond, List, [], ◌∷◌, ◌++◌}
use Rattle.journal_text.specs.Scans.{blank}
use Rattle.journal_words.specs.declared.words.Words.{Words}

-- the word of which all bytes are read, unless it has none
abbrev pub ended : List ℕ → List (List ℕ)
ended [] = []
ended (b ∷ bs) = (b ∷ bs) ∷ []

-- the words of a text, where the bytes of `read` belong to its first word
abbrev pub words_after : List ℕ → List ℕ → List (List ℕ)
words_after read [] = ended read
words_after read (b ∷ bs) = cond (blank b) (ended read ++ words_after [] bs) (words_after (read ++ (b ∷ [])) bs)

-- the words of a text: its longest runs of bytes that are not blank
abbrev pub words : List ℕ → List (List ℕ)
words bs = words_after [] bs

-- the words that are still to come
abbrev pub left : Words → List (List ℕ)
left ws = words ws.rest.now
