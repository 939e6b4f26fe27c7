-- An entry stays right while every handle stands for what it stood for. Assumes nothing.
use Rattle.std.proofs.Common.{◌≡◌, ℕ, Some, sym, ◌∙◌}
use Rattle.diagrams.specs.Kinds.{Kind}
use Rattle.diagrams.specs.Layouts.{Layout}
use Rattle.diagrams.specs.Tasks
use Rattle.diagrams.specs.Tasks.{Task, result}
use Rattle.histories.specs.Stores.{Key, Forgotten}
use Rattle.histories.specs.Tables.{Model}
use Rattle.histories.specs.Steps.{Keyed, EntriesStay}
use Rattle.histories.proofs.Sound.{Right, Sound}
use Rattle.histories.proofs.Made.{none_some}
use Rattle.histories.proofs.Keeping.{Moves}

-- A call keeps its key.
pub keyed_moves : (m n : Model) → Moves m n → (task : Task) (k : Key) → Keyed m task k → Keyed n task k
keyed_moves m n move (Tasks.constant v) k p = p
keyed_moves m n move (Tasks.mark i) k p = p
keyed_moves m n move (Tasks.combine o a b) k p = (p.0, p.1, move a p.0 p.2, move b p.1 p.3, p.4)
keyed_moves m n move (Tasks.restrict d i c) k p = (p.0, move d p.0 p.1, p.2)

module _ (K : Kind) (L : Layout) where
  -- All entries of a table are right.
  abbrev pub AllRight : Model → Type 0
  AllRight n = (k : Key) (h : ℕ) → n.entries k ≡ Some h → Right K L n k h

  module _ (m n : Model) where
    pub right_moves : Moves m n → (k : Key) (h : ℕ) → Right K L m k h → Right K L n k h
    right_moves move k h r = record {
      task = r.task;
      fit = r.fit;
      keyed = keyed_moves m n move r.task k r.keyed;
      long = r.long;
      answers = move (result K L r.task) h r.answers;
      needed = λ d q. let u = r.needed d q in (u.0, move d u.0 u.1);
    }

    pub entries_right : Sound K L m → Moves m n → EntriesStay m n → AllRight n
    entries_right sound move same k h e = right_moves move k h (sound.right k h (sym (same k) ∙ e))

    pub none_right : Forgotten n.entries → AllRight n
    none_right gone k h e = absurd (none_some (sym (gone k) ∙ e))
