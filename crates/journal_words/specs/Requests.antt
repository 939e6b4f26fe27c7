-- The operands of each command. Assumes nothing.
use Rattle.std.specs.Prelude.{ℕ, Bool, false, cond, ◌&&◌, List, [], ◌∷◌, Some, None, Ok, Err, Option, Result}
use Rattle.std.specs.Option.{ok_or}
use Rattle.std.specs.List.{list_all}
use Rattle.journal_words.specs.declared.command.Command.{Command}
use Rattle.journal_words.specs.declared.command.Command.TheVariants as command
use Rattle.journal_words.specs.declared.command.KindName.{KindName}
use Rattle.journal_words.specs.declared.command.Operand.{Operand}
use Rattle.journal_words.specs.declared.command.Operand.TheVariants as operand
use Rattle.journal_words.specs.declared.command.StoreName.{StoreName}
use Rattle.journal_words.specs.declared.command.StoreName.TheVariants as stored
use Rattle.journal_text.specs.declared.mistake.Mistake.{Mistake}
use Rattle.journal_text.specs.declared.mistake.Mistake.TheVariants.{UnknownCommand, MissingOperand, ExtraOperand, BadHandle, UnknownKind, UnknownStore, UnknownList}
use Rattle.journal_text.specs.declared.scan.Class.TheVariants.{NameByte, Digit}
use Rattle.journal_words.specs.declared.verb.ListName.{ListName}
use Rattle.journal_words.specs.declared.verb.ListName.TheVariants as listed
use Rattle.journal_words.specs.declared.verb.StoreWord.{StoreWord}
use Rattle.journal_words.specs.declared.verb.StoreWord.TheVariants as word
use Rattle.journal_words.specs.declared.verb.Verb.{Verb}
use Rattle.journal_words.specs.declared.verb.Verb.TheVariants as verb
use Rattle.journal_text.specs.Hex.{hex_of}
use Rattle.journal_text.specs.Numbers.{decimal}
use Rattle.journal_text.specs.Scans.{letter, within}
use Rattle.journal_words.specs.Verbs.{beside, verb_of, kinds, stores, lists}

-- what follows on an answer; a mistake stays
abbrev pub after : {A B : Type 0} → Result A Mistake → (A → Result B Mistake) → Result B Mistake
after (Ok x) f = f x
after (Err e) f = Err e

-- an answer in other terms
abbrev pub answered : {A B : Type 0} → (A → B) → Result A Mistake → Result B Mistake
answered f (Ok x) = Ok (f x)
answered f (Err e) = Err e

-- a letter a-z, then letters a-z, digits and `_`
abbrev pub is_name : List ℕ → Bool
is_name [] = false
is_name (b ∷ bs) = letter b && list_all (within NameByte) (b ∷ bs)

-- a word as a name
abbrev pub name_of : List ℕ → Option (List ℕ)
name_of w = cond (is_name w) (Some w) None

-- whether the first byte is a digit
abbrev pub begins_with_digit : List ℕ → Bool
begins_with_digit [] = false
begins_with_digit (b ∷ bs) = within Digit b

-- what may stand at a place among a command's operands
pub data Slot : Type 0 where
  Number : Slot
  Handle : Slot
  Hex : Slot
  Kind : Slot
  Store : Slot
  Shown : Slot

-- an operand, with the bytes of a name or of hex as they are written
pub data Part : Type 0 where
  number : ℕ → Part
  name : List ℕ → Part
  hex : List ℕ → Part
  kind : KindName → Part
  store : StoreName → Part
  list : ListName → Part

-- the operands of each command
abbrev pub slots : Verb → List Slot
slots verb.Layout = Number ∷ []
slots verb.Exchange = Number ∷ Number ∷ []
slots verb.SetType = Number ∷ Number ∷ []
slots verb.Table = Kind ∷ Number ∷ Store ∷ []
slots verb.Walk = Number ∷ Number ∷ []
slots verb.Output = Number ∷ Number ∷ []
slots verb.Constant = Number ∷ []
slots verb.Mark = Number ∷ []
slots verb.Sum = Handle ∷ Handle ∷ []
slots verb.Difference = Handle ∷ Handle ∷ []
slots verb.Product = Handle ∷ Handle ∷ []
slots verb.Restrict = Handle ∷ Number ∷ Number ∷ []
slots verb.Read = Hex ∷ []
slots verb.Hold = Handle ∷ []
slots verb.LetGo = Handle ∷ []
slots verb.Sweep = []
slots verb.Size = Handle ∷ []
slots verb.Write = Handle ∷ []
slots verb.Grade = Handle ∷ Number ∷ []
slots verb.Release = []
slots verb.Reopen = []
slots verb.Show = Shown ∷ []

-- a handle begins with a digit, or is a name
abbrev pub handle : List ℕ → Result Part Mistake
handle w = cond (begins_with_digit w) (answered number (decimal w)) (cond (is_name w) (Ok (name w)) (Err BadHandle))

-- the store that a word begins, and the words after it: a lent one is followed by its length
abbrev pub store_of : StoreWord → List (List ℕ) → Result (Part × List (List ℕ)) Mistake
store_of word.Last ws = Ok (store stored.Last, ws)
store_of word.Own ws = Ok (store stored.Own, ws)
store_of word.Lent [] = Err MissingOperand
store_of word.Lent (w ∷ ws) = answered (λ n. (store (stored.Lent n), ws)) (decimal w)

-- the operand that a word begins, and the words after it
abbrev pub part : Slot → List ℕ → List (List ℕ) → Result (Part × List (List ℕ)) Mistake
part Number w ws = answered (λ n. (number n, ws)) (decimal w)
part Handle w ws = answered (λ p. (p, ws)) (handle w)
part Hex w ws = answered (λ _. (hex w, ws)) (hex_of w)
part Kind w ws = answered (λ k. (kind k, ws)) (ok_or (beside kinds w) UnknownKind)
part Store w ws = after (ok_or (beside stores w) UnknownStore) (λ s. store_of s ws)
part Shown w ws = answered (λ l. (list l, ws)) (ok_or (beside lists w) UnknownList)

-- the first operand of a line of words, and the words after it
abbrev pub first : Slot → List (List ℕ) → Result (Part × List (List ℕ)) Mistake
first s [] = Err MissingOperand
first s (w ∷ ws) = part s w ws

-- all the operands, and no word more
abbrev pub taken : List Slot → List (List ℕ) → Result (List Part) Mistake
taken [] [] = Ok []
taken [] (w ∷ ws) = Err ExtraOperand
taken (s ∷ ss) ws = after (first s ws) (λ p. answered (λ ps. p.0 ∷ ps) (taken ss p.1))

-- a command: its word and its operands
pub record Request : Type 0 where
  pub word : Verb
  pub parts : List Part

-- the command of a word, with its operands
abbrev pub request : Verb → List (List ℕ) → Result Request Mistake
request v ws = answered (λ ps. record { word = v; parts = ps }) (taken (slots v) ws)

-- the command that a word names
unfoldable pub begun : List ℕ → Result Verb Mistake
begun w = ok_or (verb_of w) UnknownCommand

-- a handle, as it is written
abbrev pub operand_part : Operand → Part
operand_part (operand.Number n) = number n
operand_part (operand.Name w) = name w.now

-- a command, as its word and its operands
abbrev pub said : Command → Request
said (command.Layout marks) = record { word = verb.Layout; parts = number marks ∷ [] }
said (command.Exchange a b) = record { word = verb.Exchange; parts = number a ∷ number b ∷ [] }
said (command.SetType mark to) = record { word = verb.SetType; parts = number mark ∷ number to ∷ [] }
said (command.Table k capacity s) = record { word = verb.Table; parts = kind k ∷ number capacity ∷ store s ∷ [] }
said (command.Walk length fill) = record { word = verb.Walk; parts = number length ∷ number fill ∷ [] }
said (command.Output length fill) = record { word = verb.Output; parts = number length ∷ number fill ∷ [] }
said (command.Constant value) = record { word = verb.Constant; parts = number value ∷ [] }
said (command.Mark mark) = record { word = verb.Mark; parts = number mark ∷ [] }
said (command.Sum a b) = record { word = verb.Sum; parts = operand_part a ∷ operand_part b ∷ [] }
said (command.Difference a b) = record { word = verb.Difference; parts = operand_part a ∷ operand_part b ∷ [] }
said (command.Product a b) = record { word = verb.Product; parts = operand_part a ∷ operand_part b ∷ [] }
said (command.Restrict h mark constant) = record { word = verb.Restrict; parts = operand_part h ∷ number mark ∷ number constant ∷ [] }
said (command.Read text) = record { word = verb.Read; parts = hex text.now ∷ [] }
said (command.Hold h) = record { word = verb.Hold; parts = operand_part h ∷ [] }
said (command.LetGo h) = record { word = verb.LetGo; parts = operand_part h ∷ [] }
said command.Sweep = record { word = verb.Sweep; parts = [] }
said (command.Size h) = record { word = verb.Size; parts = operand_part h ∷ [] }
said (command.Write h) = record { word = verb.Write; parts = operand_part h ∷ [] }
said (command.Grade h fruit) = record { word = verb.Grade; parts = operand_part h ∷ number fruit ∷ [] }
said command.Release = record { word = verb.Release; parts = [] }
said command.Reopen = record { word = verb.Reopen; parts = [] }
said command.ShowWalk = record { word = verb.Show; parts = list listed.Walk ∷ [] }
said command.ShowOutput = record { word = verb.Show; parts = list listed.Output ∷ [] }
