-- The rule book: what calls and answers alone say of each handle. Assumes nothing.
use Rattle.std.specs.Prelude.{ℕ, zero, suc, ◌+◌, ◌-◌, cond, ◌||◌, List, [], ◌∷◌, Some, None, Option, ◌==◌, nat_le, nat_lt}
use Rattle.diagrams.specs.Kinds.{Kind}
use Rattle.diagrams.specs.Layouts.{Layout, bit, put}
use Rattle.diagrams.specs.Diagrams.{rule}
use Rattle.diagrams.specs.Tasks.{act}
use Rattle.diagrams.specs.Reading.{Outcome, read_sheet, drawn, fault}
use Rattle.histories.specs.Builds.{Build, constant, mark, combine, restrict}
use Rattle.histories.specs.Requests.{Call, build, read, hold, let_go, sweep, look, release, reopen, Asked, Reply, gives, done, refused, accepts, Answer}

-- Calls with their answers, the last one first.
abbrev pub Log : Type 0
Log = List (Asked × Answer)

-- The rule of each handle that is in the book.
abbrev pub Book : Type 0
Book = ℕ → Option (ℕ → ℕ)

-- The book, and how many more times each handle was held than let go.
pub record Ledger : Type 0 where
  pub book : Book
  pub times : ℕ → ℕ

-- f with x at h.
abbrev pub changed : {A : Type 0} → ℕ → A → (ℕ → A) → ℕ → A
changed h x f g = cond (g == h) x (f g)

-- The handle that a call answered entered with its rule, if there is one.
abbrev pub entered : Reply → Option (ℕ → ℕ) → Book → Book
entered (gives h) (Some f) B = changed h (Some f) B
entered (gives h) None B = B
entered done f B = B
entered (refused n l p) f B = B

-- All struck but 0, 1 and what is held more often than let go.
abbrev pub struck : (ℕ → ℕ) → Book → Book
struck times B h = cond (nat_le h 1 || nat_lt 0 (times h)) (B h) None

-- A rule from one, where the book has it.
abbrev pub with_one : ((ℕ → ℕ) → ℕ → ℕ) → Option (ℕ → ℕ) → Option (ℕ → ℕ)
with_one op None = None
with_one op (Some f) = Some (op f)

-- A rule from two, where the book has both.
abbrev pub with_two : ((ℕ → ℕ) → (ℕ → ℕ) → ℕ → ℕ) → Option (ℕ → ℕ) → Option (ℕ → ℕ) → Option (ℕ → ℕ)
with_two op None g = None
with_two op (Some f) g = with_one (op f) g

module _ (K : Kind) (L : Layout) where
  -- The rule of a building call's answer, from those of its operands.
  abbrev pub built_rule : Build → Book → Option (ℕ → ℕ)
  built_rule (constant v) B = Some (λ fruit. v)
  built_rule (mark i) B = Some (λ fruit. elim (bit i fruit) [ zero ↦ K.zero | suc _ ↦ K.one ])
  built_rule (combine o x y) B = with_two (λ f g fruit. act K o (f fruit) (g fruit)) (B x) (B y)
  built_rule (restrict x i v) B = with_one (λ f fruit. f (put i v fruit)) (B x)

  -- The rule of a sheet's last leaf or node: that of the diagram whose sheet the bytes are (`Accepts`), none where they are no sheet.
  abbrev pub sheet_rule : Outcome → Option (ℕ → ℕ)
  sheet_rule (drawn d) = Some (rule K L d)
  sheet_rule (fault k p) = None

  -- What an accepted call writes into the ledger. No sheet of a table has more records than the largest capacity, 4,096.
  abbrev pub noted : Call → Reply → Ledger → Ledger
  noted (build b) r G = record { book = entered r (built_rule b G.book) G.book; times = G.times }
  noted (read s) r G = record { book = entered r (sheet_rule (read_sheet K L 4096 s)) G.book; times = G.times }
  noted (hold h) r G = record { book = G.book; times = changed h (G.times h + 1) G.times }
  noted (let_go h) r G = record { book = G.book; times = changed h (G.times h - 1) G.times }
  noted sweep r G = record { book = struck G.times G.book; times = G.times }
  noted (look l) r G = G
  noted release r G = G
  noted reopen r G = G

  -- The book starts with handle 0 as zero and 1 as one.
  abbrev pub first_book : Book
  first_book zero = Some (λ fruit. K.zero)
  first_book (suc zero) = Some (λ fruit. K.one)
  first_book (suc (suc h)) = None

  -- The ledger of a log; a refused call leaves it.
  abbrev pub ledger : Log → Ledger
  ledger [] = record { book = first_book; times = λ h. 0 }
  ledger (e ∷ log) = cond (accepts e.1.reply) (noted e.0.call e.1.reply (ledger log)) (ledger log)

  -- The rule book of a log.
  abbrev pub book : Log → Book
  book log = (ledger log).book
