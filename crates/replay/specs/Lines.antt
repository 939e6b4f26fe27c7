-- Reading a journal comes to its end: less is left of it after each command. Assumes nothing.
use Rattle.std.specs.Prelude.{ℕ, ◌<◌, ◌≤◌, Some, None, Ok, Err, Option, Result}

-- A command was taken and less is left, or there was none.
abbrev pub Taken : {A : Type 0} → Option A → ℕ → ℕ → Type 0
Taken None before after = after ≤ before
Taken (Some line) before after = after < before

-- The same of a line that may be no command.
abbrev pub Read : {A E : Type 0} → Result (Option A) E → ℕ → ℕ → Type 0
Read (Ok line) before after = Taken line before after
Read (Err e) before after = after ≤ before
