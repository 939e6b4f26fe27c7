-- What a fault of reading tells: a refusal, and a byte place. Assumes nothing.
use Rattle.std.specs.Prelude.{ℕ}
use Rattle.refusals.specs.declared.refusal.Refusal.{Refusal}
use Rattle.refusals.specs.declared.refusal.Refusal.TheVariants.{WalkTooShort, RecordCut, TableFull}
use Rattle.refusals.specs.declared.fault.SheetFault.{SheetFault}
use Rattle.refusals.specs.declared.fault.SheetFault.TheVariants.{Bytes, Broken}
use Rattle.refusals.specs.declared.fault.TableFault.{TableFault}
use Rattle.refusals.specs.declared.fault.TableFault.TheVariants.{Sheet, ShortList, Full}

-- The refusal of a sheet's fault.
abbrev pub sheet_refusal : SheetFault → Refusal
sheet_refusal (Bytes f) = RecordCut
sheet_refusal (Broken e place) = e

-- The byte place of a sheet's fault.
abbrev pub sheet_place : SheetFault → ℕ
sheet_place (Bytes f) = f.place
sheet_place (Broken e place) = place

-- The refusal of a table's fault.
abbrev pub table_refusal : TableFault → Refusal
table_refusal (Sheet f) = sheet_refusal f
table_refusal ShortList = WalkTooShort
table_refusal (Full place) = TableFull

-- The byte place of a table's fault; 0 where the walk list is too short.
abbrev pub table_place : TableFault → ℕ
table_place (Sheet f) = sheet_place f
table_place ShortList = 0
table_place (Full place) = place
