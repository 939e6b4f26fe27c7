-- The open and the released table of the code as the specification of tables sees them, and what their calls ask and answer. Assumes nothing.
use Rattle.std.specs.Prelude.{ℕ, List, [], Ok, Err, Result}
use Rattle.std.specs.Int.{from_bool}
use Rattle.diagrams.specs.Kinds.{Kind}
use Rattle.histories.specs.Stores.{Entries}
use Rattle.histories.specs.Tables.{opened, released, Model}
use Rattle.histories.specs.Builds
use Rattle.histories.specs.Requests.{Call, Asked, Reply, gives, refused, Answer}
use Rattle.histories.specs.Steps.{layer}
use Rattle.histories.specs.Histories.{Kept}
use Rattle.refusals.specs.Refusals.{number}
use Rattle.refusals.specs.declared.refusal.Refusal.{Refusal}
use Rattle.layouts.specs.View.{view}
use Rattle.building.specs.Work.{model}
use Rattle.building.specs.Operations
use Rattle.tables.specs.declared.call.Build.{Build}
use Rattle.tables.specs.declared.call.Build.TheVariants.{Constant, Mark, Combine, Restrict}
use Rattle.tables.specs.declared.call.Checked.{Checked}
use Rattle.tables.specs.declared.call.Checked.TheVariants as checked
use Rattle.tables.specs.declared.open.Open.{Open}
use Rattle.tables.specs.declared.released.Released.{Released}

module _ {K S : Type 0} (entries : S → Entries) where
  -- An open table, where `entries` tells what its store answers.
  abbrev pub open_model : Open K S → Model
  open_model t = model (view t.layout) (entries t.store) opened t.places

  -- A released table.
  abbrev pub released_model : Released K S → Model
  released_model t = model (view t.layout) (entries t.store) released t.places

-- A call with the walk list and the output that it is lent.
abbrev pub asked : Call → List ℕ → List ℕ → Asked
asked call walk output = record { call = call; walk = walk; output = output }

-- A call that is lent no list.
abbrev pub plain : Call → Asked
plain call = record { call = call; walk = []; output = [] }

-- A reply to such a call.
abbrev pub replies : Reply → Answer
replies reply = record { reply = reply; walk = []; output = [] }

-- The reply of a call that gives a number or a refusal.
abbrev pub told : Result ℕ Refusal → Reply
told (Ok x) = gives x
told (Err e) = refused (number e) (layer (number e)) 0

-- The answer of such a call, with the lists as it leaves them.
abbrev pub answered : Result ℕ Refusal → List ℕ → List ℕ → Answer
answered r walk output = record { reply = told r; walk = walk; output = output }

-- The same of a call that is lent no list.
abbrev pub gave : Result ℕ Refusal → Answer
gave (Ok x) = replies (gives x)
gave (Err e) = replies (refused (number e) (layer (number e)) 0)

module _ {K S : Type 0} (kind : Kind) (entries : S → Entries) where
  -- What each call of an open table promises: on a table to which steps lead from a making, it takes the step of that call.
  abbrev pub OpenTakes : Open K S → Asked → Answer → Open K S → Type 0
  OpenTakes before request answer after = Kept kind (open_model entries before) request answer (open_model entries after)

  -- The same of a call that is lent no list.
  abbrev pub OpenStep : Open K S → Call → Result ℕ Refusal → Open K S → Type 0
  OpenStep before call answer after = Kept kind (open_model entries before) (plain call) (gave answer) (open_model entries after)

  -- What each call that leaves a released table as it is promises.
  abbrev pub ReleasedTakes : Released K S → Asked → Answer → Type 0
  ReleasedTakes table request answer = Kept kind (released_model entries table) request answer (released_model entries table)

  -- The same of a call that is lent no list.
  abbrev pub ReleasedStep : Released K S → Call → Result ℕ Refusal → Type 0
  ReleasedStep table call answer = Kept kind (released_model entries table) (plain call) (gave answer) (released_model entries table)

-- The building call of the specification that a value of the code is.
abbrev pub meant : Build → Builds.Build
meant (Constant word) = Builds.constant word
meant (Mark index) = Builds.mark index
meant (Combine operation a b) = Builds.combine (Operations.meant operation) a b
meant (Restrict handle mark constant) = Builds.restrict handle mark constant

-- The same of one whose arguments were looked at.
abbrev pub asked_as : Checked → Builds.Build
asked_as (checked.Constant word) = Builds.constant word
asked_as (checked.Mark mark) = Builds.mark mark
asked_as (checked.Combine operation left right) = Builds.combine (Operations.meant operation) left right
asked_as (checked.Restrict place mark one) = Builds.restrict place mark (from_bool one)
