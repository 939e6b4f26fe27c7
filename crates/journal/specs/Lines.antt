-- What a line of a journal asks for. Assumes nothing.
use Rattle.std.specs.Prelude.{ℕ, cond, List, [], ◌∷◌, take, Some, None, Ok, Err, codes, Option, Result}
use Rattle.std.specs.Option.{option_map}
use Rattle.std.specs.List.{prefix_len}
use Rattle.std.specs.Str.{bytes_eq}
use Rattle.journal_text.specs.declared.mistake.Mistake.{Mistake}
use Rattle.journal_text.specs.declared.mistake.Mistake.TheVariants.{MissingCommand, BadName, NoHandle}
use Rattle.journal_text.specs.declared.scan.Class.TheVariants.{Not}
use Rattle.journal_text.specs.Scans.{within}
use Rattle.journal_words.specs.declared.command.Line.{Line}
use Rattle.journal_words.specs.Requests.{Request, after, answered, begun, is_name, request, said}
use Rattle.journal_words.specs.Verbs.{bindable}
use Rattle.journal_words.specs.Words.{words}

-- a command, and the name that its handle is bound to
pub record Asked : Type 0 where
  pub binds : Option (List ℕ)
  pub request : Request

-- a line that binds no name
abbrev pub unbound : List ℕ → List (List ℕ) → Result Asked Mistake
unbound w ws = after (begun w) (λ v. answered (λ q. record { binds = None; request = q }) (request v ws))

-- what follows `NAME =`: a command that answers a handle
abbrev pub bound_to : List ℕ → List (List ℕ) → Result Asked Mistake
bound_to n [] = Err MissingCommand
bound_to n (w ∷ ws) = after (begun w) (λ v. cond (bindable v) (answered (λ q. record { binds = Some n; request = q }) (request v ws)) (Err NoHandle))

-- a line that binds a name
abbrev pub bound : List ℕ → List (List ℕ) → Result Asked Mistake
bound n ws = cond (is_name n) (bound_to n ws) (Err BadName)

-- a first word and those after it: where the second is `=`, the first is bound
abbrev pub after_first : List ℕ → List (List ℕ) → Result Asked Mistake
after_first w [] = unbound w []
after_first w (e ∷ ws) = cond (bytes_eq e (codes "=")) (bound w ws) (unbound w (e ∷ ws))

-- a line of words
abbrev pub line_of : List (List ℕ) → Result (Option Asked) Mistake
line_of [] = Ok None
line_of (w ∷ ws) = answered Some (after_first w ws)

-- what stands before the first `#`
abbrev pub uncommented : List ℕ → List ℕ
uncommented line = take (prefix_len (within (Not 35)) line) line

-- what a line asks for
abbrev pub meaning : List ℕ → Result (Option Asked) Mistake
meaning line = line_of (words (uncommented line))

-- a line, as the name that it binds and its command
abbrev pub line_said : Line → Asked
line_said line = record { binds = option_map (λ x. x.now) line.binds; request = said line.command }
