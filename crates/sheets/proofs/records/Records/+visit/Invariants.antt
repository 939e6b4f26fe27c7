-- A node's children are earlier records. Assumes nothing.
use Rattle.sheets.proofs.records.Records.+visit.Given as goal

abbrev pub decreases-visit : goal.decreases-visit
decreases-visit l = l.i
