-- What names are bound to. Assumes nothing.
use Rattle.std.specs.Prelude.{◌≡◌, ℕ, cond, List, Some, Option}
use Rattle.std.specs.BTreeMap.{get_by_text}
use Rattle.std.specs.Str.{bytes_eq as same_text}
use Rattle.journal.specs.declared.names.Names.{Names}
use Rattle.journal_words.specs.declared.command.Operand.{Operand}
use Rattle.journal_words.specs.declared.command.Operand.TheVariants.{Number, Name}

-- the handle that a name is bound to
abbrev pub handle_of : Names → List ℕ → Option ℕ
handle_of names w = get_by_text names.handles w

-- the handle that an operand means: its number, or what its name is bound to
abbrev pub meant : Names → Operand → Option ℕ
meant names (Number h) = Some h
meant names (Name w) = handle_of names w.now

-- from `before` to `later` the name w is bound to h, or unbound, and every other name is as it was
abbrev pub Rebinds : Names → List ℕ → Option ℕ → Names → Type 0
Rebinds before w h later = (v : List ℕ) → handle_of later v ≡ cond (same_text v w) h (handle_of before v)

-- every name is as it was
abbrev pub Keeps : Names → Names → Type 0
Keeps before later = (v : List ℕ) → handle_of later v ≡ handle_of before v
