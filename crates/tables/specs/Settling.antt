-- How a building call ends on an open table. Assumes nothing.
use Rattle.std.specs.Prelude.{◌≡◌, ℕ, ◌<◌, T, Some, None, Ok, Err, Option, Result}
use Rattle.diagrams.specs.Kinds.{Kind}
use Rattle.histories.specs.Stores.{Entries, Forgotten}
use Rattle.histories.specs.Requests.{Call}
use Rattle.refusals.specs.declared.refusal.Refusal.{Refusal}
use Rattle.refusals.specs.declared.refusal.Refusal.TheVariants.{TableFull}
use Rattle.places.specs.declared.places.Places.{Places}
use Rattle.layouts.specs.View.{view}
use Rattle.places.specs.Tables.{Used}
use Rattle.tables.specs.declared.call.Checked.{Checked}
use Rattle.tables.specs.declared.call.Checked.TheVariants.{Constant, Mark, Combine, Restrict}
use Rattle.tables.specs.declared.open.Open.{Open}
use Rattle.tables.specs.Models.{OpenStep}

module _ {K S : Type 0} (entries : S → Entries) (before after : Open K S) where
  -- The handle is given, and the table is as building left it.
  pub record Given (h : ℕ) (r : Result ℕ Refusal) : Type 0 where
    pub told : r ≡ Ok h
    pub table : after ≡ before

  -- The table is full: its places are those that were saved, and its store has forgotten.
  pub record Full (saved : Places) (r : Result ℕ Refusal) : Type 0 where
    pub told : r ≡ Err TableFull
    pub layout : after.layout ≡ before.layout
    pub places : after.places ≡ saved
    pub store : Forgotten (entries after.store)

  -- By what building brought.
  abbrev pub Settled : Places → Option ℕ → Result ℕ Refusal → Type 0
  Settled saved None r = Full saved r
  Settled saved (Some h) r = Given h r

-- What is sure of a building call whose arguments were looked at: a value, a mark of the layout, places in use.
abbrev pub Sure : {K S : Type 0} → Kind → Open K S → Checked → Type 0
Sure kind t (Constant word) = T (kind.value word)
Sure kind t (Mark mark) = mark < (view t.layout).size
Sure kind t (Combine operation left right) = Used t.places left × Used t.places right
Sure kind t (Restrict place mark one) = Used t.places place × (mark < (view t.layout).size)

module _ {K S : Type 0} (kind : Kind) (entries : S → Entries) (before after : Open K S) (call : Call) where
  -- How far building came. A refused call has taken its step. What was brought, or that there was no room, is a step as soon as the table is settled,
  -- whatever is answered.
  abbrev pub Attempted : Result (Option ℕ) Refusal → Type 0
  Attempted (Err e) = OpenStep kind entries before call (Err e) after
  Attempted (Ok brought) =
      (settled : Open K S) (r : Result ℕ Refusal) → Settled entries after settled before.places brought r → OpenStep kind entries before call r settled
