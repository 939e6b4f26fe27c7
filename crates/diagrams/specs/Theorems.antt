-- The theorems on diagrams. Assumes nothing.
use Rattle.std.specs.Prelude.{◌≡◌, ℕ, suc, ◌^◌, ◌<◌, ◌≤◌, ◌⊎◌, ◌↔◌, List}
use mathlib.Core.List.{Memᴰ}
use Rattle.std.specs.List.{AllByRecursion}
use Rattle.diagrams.specs.Kinds.{Kind}
use Rattle.diagrams.specs.Layouts.{Decomposition, Layout, Valid, type_code, type_of, laid, begin, exchange, set_type}
use Rattle.diagrams.specs.Diagrams.{Lawful, Diagram, leaf, node, rule, Good}
use Rattle.diagrams.specs.Tasks.{Task, Fit, meaning, result}
use Rattle.diagrams.specs.Building.{short, split, composed, smaller, Needs, Operand, AtHand}

-- Diagrams that grade every fruit alike are one diagram.
abbrev pub Canonical : Type 0
Canonical = (K : Kind) (L : Layout) → Lawful K L → (a b : Diagram) → Good K L 0 a → Good K L 0 b
    → ((fruit : ℕ) → fruit < 2 ^ L.size → rule K L a fruit ≡ rule K L b fruit) → a ≡ b

-- The answer to a call is a good diagram, no higher than the call's operands, with the rule that the call means.
abbrev pub Answered : Type 0
Answered = (K : Kind) (L : Layout) → Lawful K L → (l : ℕ) → l ≤ L.size → (task : Task) → Fit K L l task
    → Good K L l (result K L task) × ((fruit : ℕ) → rule K L (result K L task) fruit ≡ meaning K L task fruit)

-- It is the only such diagram.
abbrev pub Only : Type 0
Only = (K : Kind) (L : Layout) → Lawful K L → (task : Task) → Fit K L 0 task → (d : Diagram) → Good K L 0 d
    → ((fruit : ℕ) → fruit < 2 ^ L.size → rule K L d fruit ≡ meaning K L task fruit) → d ≡ result K L task

-- Building from smaller calls gives that answer.
abbrev pub Composes : Type 0
Composes = (K : Kind) (L : Layout) → Lawful K L → (task : Task) → Fit K L 0 task → composed K L task ≡ result K L task

-- A smaller call stands deeper, so no more than size + 1 calls are open inside one another.
abbrev pub Deeper : Type 0
Deeper = (K : Kind) (L : Layout) → Lawful K L → (l : ℕ) → l ≤ L.size → (task : Task) → Fit K L l task
    → AllByRecursion (λ part. (l < L.size) × Fit K L (suc l) part) (smaller K L task)

-- No smaller call is left out: each operand of a smaller call is at hand, and a shortcut's answer is at hand, or a leaf, or a node whose
-- children are at hand.
pub record Tied (K : Kind) (L : Layout) (task : Task) : Type 0 where
  pub operands : (part : Task) → Memᴰ part (smaller K L task) → (d : Diagram) → Operand K L part d → AtHand K L task d
  pub shortcuts : (d : Diagram) (way : List Task) → split K L task ≡ short d way
      → AtHand K L task d ⊎ ((v : ℕ) × (d ≡ leaf v)) ⊎ ((l : ℕ) × (a : Diagram) × (b : Diagram) × (d ≡ node l a b) × AtHand K L task a × AtHand K L task b)

-- Every call is so tied.
abbrev pub AllTied : Type 0
AllTied = (K : Kind) (L : Layout) → Lawful K L → (task : Task) → Fit K L 0 task → Tied K L task

-- What a call needs is a list of diagrams.
abbrev pub Listed : Type 0
Listed = (K : Kind) (L : Layout) → Lawful K L → (task : Task) → Fit K L 0 task
    → (needed : List Diagram) × ((d : Diagram) → Needs K L task d ↔ Memᴰ d needed)

-- Whatever a call that sets up a layout lays is a valid layout; and the numbers of the types tell them apart.
pub record LayoutsStayValid : Type 0 where
  pub begun_valid : (n : ℕ) (M : Layout) → begin n ≡ laid M → Valid M
  pub exchanged_valid : (L : Layout) (l m : ℕ) (M : Layout) → Valid L → exchange l m L ≡ laid M → Valid M
  pub retyped_valid : (L : Layout) (i t : ℕ) (M : Layout) → Valid L → set_type i t L ≡ laid M → Valid M
  pub type_told : (t : Decomposition) → type_of (type_code t) ≡ t
