-- How many nodes a walk came to: the size of the diagram it began at. Assumes nothing.
use Rattle.std.proofs.Common.{◌≡◌, ℕ, cond, List, [], ◌∷◌, length, refl, ap, ◌∙◌, arith}
use Rattle.std.proofs.lemmas.List.Sums.{sum_by-cons}
use Rattle.diagrams.specs.Diagrams.{Diagram, leaf, node}
use Rattle.diagrams.specs.Sizes.{extent}
use Rattle.diagrams.specs.Sheets.{visited}
use Rattle.diagrams.specs.Places.{Content}
use Rattle.diagrams.proofs.Measures.{branches, branches_extent}
use Rattle.places.specs.declared.places.Places.{Places}
use Rattle.places.specs.Tables.{holds}
use Rattle.walks.specs.Walks.{StandFor, Collected, is_node, node_count}

module _ (at : ℕ → Content) where
  -- Among handles of diagrams, as many hold nodes as there are nodes among the diagrams.
  count_branches : (hs : List ℕ) (ds : List Diagram) → StandFor at hs ds → node_count at hs ≡ length (branches ds)
  unfolding branches
  count_branches [] [] all = refl
  count_branches [] (e ∷ es) all = absurd all
  count_branches (h ∷ hs) [] all = absurd all
  count_branches (h ∷ hs) (leaf v ∷ es) all = rw all.0 (count_branches hs es all.1)
  count_branches (h ∷ hs) (node l a b ∷ es) all =
      omega (arith, sum_by-cons (λ g. cond (is_node (at g)) 1 0) h hs, ap {B = ℕ} (λ (c : Content). cond (is_node c) 1 0) all.0.2, count_branches hs es all.1)

-- The nodes that a walk from a place came to are as many as the size of its diagram.
pub count_extent : (t : Places) (marks order : List ℕ) (d : Diagram) → Collected t marks order (visited d []) → node_count (holds t) order ≡ extent d
count_extent t marks order d c = count_branches (holds t) order (visited d []) c.stand ∙ branches_extent d c.distinct
