-- What is true of every table between two calls. Assumes nothing.
use Rattle.std.proofs.Common.{◌≡◌, ℕ, ◌≤◌, false, Some}
use Rattle.diagrams.specs.Kinds.{Kind}
use Rattle.diagrams.specs.Layouts.{Layout}
use Rattle.diagrams.specs.Diagrams.{Diagram, Good}
use Rattle.diagrams.specs.Tasks.{Task, Fit, result}
use Rattle.diagrams.specs.Building.{shortcut, Needs}
use Rattle.diagrams.specs.Places.{free, leaf_word, Unshared}
use Rattle.histories.specs.Stores.{Key}
use Rattle.histories.specs.Tables.{Model, capacity, content, count, Live, StandsFor, InUse}
use Rattle.histories.specs.Steps.{Keyed}

module _ (K : Kind) (L : Layout) where
  -- An entry is right: some call that is no shortcut has its key and its answer, and all that the call needs is in use.
  pub record Right (m : Model) (k : Key) (h : ℕ) : Type 0 where
    pub task : Task
    pub fit : Fit K L 0 task
    pub keyed : Keyed m task k
    pub long : shortcut K L task ≡ false
    pub answers : StandsFor m (result K L task) h
    pub needed : (d : Diagram) → Needs K L task d → InUse m d

  -- A table whose layout is L: its places 0 and 1, its handles, its counts and its entries are as they should be.
  pub record Sound (m : Model) : Type 0 where
    pub least : 2 ≤ capacity m
    pub most : capacity m ≤ 4096
    pub zero : content m 0 ≡ leaf_word K.zero
    pub one : content m 1 ≡ leaf_word K.one
    pub good : (h : ℕ) → Live m h → (d : Diagram) × Good K L 0 d × StandsFor m d h
    pub unshared : Unshared (content m)
    pub unheld : (h : ℕ) → content m h ≡ free → count m h ≡ 0
    pub right : (k : Key) (h : ℕ) → m.entries k ≡ Some h → Right m k h
