-- What is asked of a table, and what it answers. Assumes nothing.
use Rattle.std.specs.Prelude.{◌≡◌, ℕ, Bool, true, false, List, []}
use Rattle.histories.specs.Builds.{Build}
use Rattle.histories.specs.Tables.{Phase, opened, released}

-- The calls that leave table and store: the size of a handle, its sheet, and its value for a fruit.
pub data Look : Type 0 where
  size write : ℕ → Look
  grade : ℕ → ℕ → Look

-- The fifteen calls of a table. Read takes bytes.
pub data Call : Type 0 where
  build : Build → Call
  read : List ℕ → Call
  hold let_go : ℕ → Call
  sweep : Call
  look : Look → Call
  release reopen : Call

-- A call with the lists that it is lent: a walk list of numbers and an output of bytes.
pub record Asked : Type 0 where
  pub call : Call
  pub walk : List ℕ
  pub output : List ℕ

-- The lists are empty where a call takes none.
abbrev pub Lent : Call → List ℕ → List ℕ → Type 0
Lent (build b) walk output = (walk ≡ []) × (output ≡ [])
Lent (read s) walk output = output ≡ []
Lent (hold h) walk output = (walk ≡ []) × (output ≡ [])
Lent (let_go h) walk output = (walk ≡ []) × (output ≡ [])
Lent sweep walk output = output ≡ []
Lent (look (size h)) walk output = output ≡ []
Lent (look (write h)) walk output = Unit {0}
Lent (look (grade h fruit)) walk output = (walk ≡ []) × (output ≡ [])
Lent release walk output = (walk ≡ []) × (output ≡ [])
Lent reopen walk output = (walk ≡ []) × (output ≡ [])

-- In which phase a table takes a call.
abbrev pub Takes : Call → Phase → Type 0
Takes (build b) p = p ≡ opened
Takes (read s) p = p ≡ opened
Takes (hold h) p = p ≡ opened
Takes (let_go h) p = p ≡ opened
Takes sweep p = p ≡ opened
Takes (look (size h)) p = Unit {0}
Takes (look (write h)) p = Unit {0}
Takes (look (grade h fruit)) p = p ≡ released
Takes release p = p ≡ opened
Takes reopen p = p ≡ released

-- The phase in which an accepted call leaves the table.
abbrev pub phase_after : Call → Phase → Phase
phase_after (build b) p = p
phase_after (read s) p = p
phase_after (hold h) p = p
phase_after (let_go h) p = p
phase_after sweep p = p
phase_after (look l) p = p
phase_after release p = released
phase_after reopen p = opened

-- Where a reading fault lies.
pub data Layer : Type 0 where
  in_bytes in_sheet in_table : Layer

-- A number (handle, count, places freed, size, length or value), nothing to tell, or a refusal: its number, its layer and a byte place.
pub data Reply : Type 0 where
  gives : ℕ → Reply
  done : Reply
  refused : ℕ → Layer → ℕ → Reply

-- Whether a reply accepts the call.
abbrev pub accepts : Reply → Bool
accepts (gives x) = true
accepts done = true
accepts (refused f l p) = false

-- The reply, and the lent lists as they are left.
pub record Answer : Type 0 where
  pub reply : Reply
  pub walk : List ℕ
  pub output : List ℕ
