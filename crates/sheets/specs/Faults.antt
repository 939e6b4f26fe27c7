-- How a fault tells what reading comes to. Assumes nothing.
use Rattle.std.specs.Prelude.{◌≡◌, ℕ}
use Rattle.diagrams.specs.Reading.{Outcome, fault, Found, bad}
use Rattle.refusals.specs.Refusals.{number}
use Rattle.refusals.specs.declared.fault.SheetFault.{SheetFault}
use Rattle.refusals.specs.Faults.{sheet_refusal, sheet_place}

-- Reading that comes to a fault.
abbrev pub failed : SheetFault → Outcome
failed f = fault (number (sheet_refusal f)) (sheet_place f)

-- A fault that tells what a record comes to, and where the record stands.
pub record Tells (comes : Found) (place : ℕ) (f : SheetFault) : Type 0 where
  pub refused : comes ≡ bad (number (sheet_refusal f))
  pub there : sheet_place f ≡ place
