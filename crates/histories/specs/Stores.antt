-- Stores of computed results: what a store answers to each key, and what asking, offering and forgetting mean. Assumes nothing.
use Rattle.std.specs.Prelude.{◌≡◌, ℕ, Bool, ◌&&◌, ◌⊎◌, Some, None, Option, ◌==◌}

-- The key of an entry: the number of its operation, its left and its right. A restriction's right is 2 × mark + constant.
pub record Key : Type 0 where
  pub operation : ℕ
  pub left : ℕ
  pub right : ℕ

-- Whether two keys agree in all three parts.
abbrev pub same_key : Key → Key → Bool
same_key j k = j.operation == k.operation && (j.left == k.left && j.right == k.right)

-- A set of entries, at most one for each key: what asking answers.
abbrev pub Entries : Type 0
Entries = Key → Option ℕ

-- An offer is added and replaces the entry of its key. Left open: which others are dropped; none is changed or made up.
pub record Offered (before after : Entries) (key : Key) (answer : ℕ) : Type 0 where
  pub newest : after key ≡ Some answer
  pub only : (k : Key) (h : ℕ) → after k ≡ Some h → ((k ≡ key) × (h ≡ answer)) ⊎ (before k ≡ Some h)

-- Forgetting empties the set.
abbrev pub Forgotten : Entries → Type 0
Forgotten after = (k : Key) → after k ≡ None
