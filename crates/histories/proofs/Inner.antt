-- The calls inside a fit call are fit, and what a fit call needs is good. Assumes nothing.
use Rattle.std.proofs.Common.{suc, subst, arith}
use mathlib.Core.List.{Memᴰ}
use Rattle.diagrams.specs.Kinds.{Kind}
use Rattle.diagrams.specs.Layouts.{Layout}
use Rattle.diagrams.specs.Diagrams.{Lawful, Diagram, node, Good}
use Rattle.diagrams.specs.Tasks.{Task, Fit}
use Rattle.diagrams.specs.Building.{smaller, Inside, itself as whole, deeper, Needs}
use Rattle.diagrams.specs.Sizes.{Within, itself, in_low, in_high}
use Rattle.diagrams.proofs.Results.{answered, fit_up}
use Rattle.diagrams.proofs.Deeper.{deepens}
use Rattle.diagrams.proofs.Listed.{all_mem}
use Rattle.diagrams.proofs.Nodes.{good_up}

module _ {K : Kind} {L : Layout} where
  -- A call inside a call inside is inside.
  pub inside_inside : {task next part : Task} → Inside K L task next → Inside K L next part → Inside K L task part
  inside_inside {part = part} (whole e) j = subst (λ t. Inside K L t part) e j
  inside_inside (deeper m i) j = deeper m (inside_inside i j)

  -- What a call inside needs, the call needs.
  pub inside_needs : {task part : Task} → Inside K L task part → (d : Diagram) → Needs K L part d → Needs K L task d
  inside_needs i d n = record { part = n.part; inside = inside_inside i n.inside; is = n.is }

  module _ (ok : Lawful K L) where
    smaller_fit : (task part : Task) → Fit K L 0 task → Memᴰ part (smaller K L task) → Fit K L 0 part
    smaller_fit task part fit m = fit_up ok 0 1 (omega arith) part (all_mem _ (smaller K L task) (deepens K L ok 0 (omega arith) task fit) m).1

    pub inside_fit : {task part : Task} → Inside K L task part → Fit K L 0 task → Fit K L 0 part
    inside_fit (whole e) fit = rw e fit
    inside_fit {task} (deeper {next = next} m i) fit = inside_fit i (smaller_fit task next fit m)

    pub needs_good : {task : Task} {d : Diagram} → Needs K L task d → Fit K L 0 task → Good K L 0 d
    needs_good n fit = rw n.is (answered K L ok 0 (omega arith) n.part (inside_fit n.inside fit)).0

    -- The parts of a good diagram are good.
    pub part_good : (e d : Diagram) → Good K L 0 d → Within e d → Good K L 0 e
    part_good e d g (itself r) = rw r g
    part_good e (node l a b) g (in_low q) = part_good e a (good_up ok 0 (suc l) a (omega arith) g.2) q
    part_good e (node l a b) g (in_high q) = part_good e b (good_up ok 0 (suc l) b (omega arith) g.3) q
