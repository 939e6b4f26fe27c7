-- The words that begin a command. Assumes nothing.
use Rattle.std.specs.Prelude.{ℕ, Bool, true, false, cond, List, [], ◌∷◌, Some, None, codes, Option}
use Rattle.std.specs.Str.{bytes_eq}
use Rattle.journal_words.specs.declared.command.KindName.{KindName}
use Rattle.journal_words.specs.declared.command.KindName.TheVariants.{YesNo, Points}
use Rattle.journal_words.specs.declared.verb.ListName.{ListName}
use Rattle.journal_words.specs.declared.verb.ListName.TheVariants as listed
use Rattle.journal_words.specs.declared.verb.StoreWord.{StoreWord}
use Rattle.journal_words.specs.declared.verb.StoreWord.TheVariants as word
use Rattle.journal_words.specs.declared.verb.Verb.{Verb}
use Rattle.journal_words.specs.declared.verb.Verb.TheVariants.{Layout, Exchange, SetType, Table, Walk, Output, Constant, Mark, Sum, Difference, Product, Restrict, Read, Hold, LetGo, Sweep, Size, Write, Grade, Release, Reopen, Show}

-- what stands beside a word in a table of words
abbrev pub beside : {A : Type 0} → List (List ℕ × A) → List ℕ → Option A
beside [] w = None
beside (row ∷ rows) w = cond (bytes_eq w row.0) (Some row.1) (beside rows w)

-- each command's word
abbrev pub verbs : List (List ℕ × Verb)
verbs =
    (codes "layout", Layout)
    ∷ (codes "exchange", Exchange)
    ∷ (codes "type", SetType)
    ∷ (codes "table", Table)
    ∷ (codes "walk", Walk)
    ∷ (codes "output", Output)
    ∷ (codes "constant", Constant)
    ∷ (codes "mark", Mark)
    ∷ (codes "sum", Sum)
    ∷ (codes "difference", Difference)
    ∷ (codes "product", Product)
    ∷ (codes "restrict", Restrict)
    ∷ (codes "read", Read)
    ∷ (codes "hold", Hold)
    ∷ (codes "let-go", LetGo)
    ∷ (codes "sweep", Sweep)
    ∷ (codes "size", Size)
    ∷ (codes "write", Write)
    ∷ (codes "grade", Grade)
    ∷ (codes "release", Release)
    ∷ (codes "reopen", Reopen)
    ∷ (codes "show", Show)
    ∷ []

-- each kind's word
abbrev pub kinds : List (List ℕ × KindName)
kinds = (codes "yesno", YesNo) ∷ (codes "points", Points) ∷ []

-- each store's word
abbrev pub stores : List (List ℕ × StoreWord)
stores = (codes "last", word.Last) ∷ (codes "own", word.Own) ∷ (codes "lent", word.Lent) ∷ []

-- the word of each list that can be shown
abbrev pub lists : List (List ℕ × ListName)
lists = (codes "walk", listed.Walk) ∷ (codes "output", listed.Output) ∷ []

-- the command that a word names
abbrev pub verb_of : List ℕ → Option Verb
verb_of w = beside verbs w

-- the commands that answer a handle
abbrev pub bindable : Verb → Bool
bindable Layout = false
bindable Exchange = false
bindable SetType = false
bindable Table = false
bindable Walk = false
bindable Output = false
bindable Constant = true
bindable Mark = true
bindable Sum = true
bindable Difference = true
bindable Product = true
bindable Restrict = true
bindable Read = true
bindable Hold = false
bindable LetGo = false
bindable Sweep = false
bindable Size = false
bindable Write = false
bindable Grade = false
bindable Release = false
bindable Reopen = false
bindable Show = false
