-- Classes of bytes. Assumes nothing.
use Rattle.std.specs.Prelude.{◌≡◌, ℕ, ◌+◌, ◌<◌, Bool, not, ◌&&◌, ◌||◌, ◌⊎◌, List, [], length, take, drop, ◌==◌, nat_le, IsUtf8}
use Rattle.std.specs.List.{prefix_len}
use Rattle.journal_text.specs.declared.scan.Class.{Class}
use Rattle.journal_text.specs.declared.scan.Class.TheVariants.{Blank, Solid, NameByte, Digit, Not}

-- space, tab and carriage return
abbrev pub blank : ℕ → Bool
blank b = b == 32 || (b == 9 || b == 13)

-- a letter a-z
abbrev pub letter : ℕ → Bool
letter b = nat_le 97 b && nat_le b 122

-- a digit 0-9
abbrev pub digit : ℕ → Bool
digit b = nat_le 48 b && nat_le b 57

-- the bytes of a class
abbrev pub within : Class → ℕ → Bool
within Blank b = blank b
within Solid b = not (blank b)
within NameByte b = letter b || (digit b || b == 95)
within Digit b = digit b
within (Not c) b = not (b == c)

-- text is the word, or is empty where the word is no text
abbrev pub Shows : List ℕ → List ℕ → Type 0
Shows w text = (text ≡ w) ⊎ ((text ≡ []) × (IsUtf8 w → ⊥))

-- `line` is what stands before the first newline of a text, and `rest` what stands after it
pub record Lines (text line rest : List ℕ) : Type 0 where
  pub before : line ≡ take (prefix_len (within (Not 10)) text) text
  pub beyond : rest ≡ drop (prefix_len (within (Not 10)) text + 1) text
  pub shorter : length rest < length text
