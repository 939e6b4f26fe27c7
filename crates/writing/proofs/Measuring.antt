-- How long the sheet of a walk is, and what stands in an output into which it is put. Assumes nothing.
use Rattle.std.proofs.Common.{◌≡◌, ℕ, ◌+◌, ◌*◌, ◌≤◌, List, [], ◌++◌, length, drop, sym, ap, ◌∙◌, subst, arith}
use lib.Seq.{sets, sets-eq}
use Rattle.std.proofs.lemmas.List.{length-append}
use Rattle.diagrams.specs.Kinds.{Kind}
use Rattle.diagrams.specs.Layouts.{Layout}
use Rattle.diagrams.specs.Diagrams.{Diagram}
use Rattle.diagrams.specs.Sheets.{visited, record_of, ender, sheet}
use Rattle.diagrams.specs.Places.{Stands}
use Rattle.diagrams.proofs.Measures.{sheet_length}
use Rattle.places.specs.declared.places.Places.{Places}
use Rattle.places.specs.Tables.{holds}
use Rattle.walks.specs.Walks.{Collected, node_count}
use Rattle.walks.proofs.Standing.{stand_length}
use Rattle.walks.proofs.NodeCounts.{count_extent}
use Rattle.writing.specs.Records.{body, under_head}

-- The sheet of a diagram is as long as the walk from it says.
walk_length : (K : Kind) (L : Layout) (t : Places) (marks order : List ℕ) (d : Diagram) → Collected t marks order (visited d [])
    → length (sheet K L d) ≡ 12 + 2 * L.size + 8 * length order + node_count (holds t) order
walk_length K L t marks order d c =
    omega (arith, sheet_length K L d c.distinct, stand_length (holds t) order (visited d []) c.stand, count_extent t marks order d c)

-- What a walk from a place comes to, and how long the sheet of the place's handle is.
module _ (K : Kind) (L : Layout) (t : Places) (h place : ℕ) (marks order : List ℕ) (same : place ≡ h)
    (walked : (d : Diagram) → Stands (holds t) d place → Collected t marks order (visited d [])) where
  pub walk_from : (d : Diagram) → Stands (holds t) d h → Collected t marks order (visited d [])
  walk_from d p = walked d (subst (Stands (holds t) d) (sym same) p)

  pub walk_measured : (n : ℕ) → n ≡ 12 + 2 * L.size + 8 * length order + node_count (holds t) order → (d : Diagram) → Stands (holds t) d h → n ≡ length (sheet K L d)
  walk_measured n long d p = omega (arith, long, walk_length K L t marks order d (walk_from d p))

-- A sheet is as long as its head record, its records and the six bytes of its end.
pub parts_length : (head : List ℕ) (d : Diagram) → length (under_head head d) ≡ length (record_of 1 head) + length (body d) + 6
parts_length head d =
    omega (arith, length-append (record_of 1 head ++ body d) (ender (visited d [])), length-append (record_of 1 head) (body d))

-- Bytes that are put at the front of an output.
pub sets_front : (out bytes : List ℕ) → length bytes ≤ length out → sets out 0 bytes ≡ bytes ++ drop (length bytes) out
sets_front out bytes fits = sets-eq bytes out 0 (omega arith) ∙ ap (λ (k : ℕ). bytes ++ drop k out) (omega arith)
