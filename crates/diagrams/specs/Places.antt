-- Places, the diagram for which a handle stands, and what is reached from the handles that are kept. Assumes nothing.
use Rattle.std.specs.Prelude.{◌≡◌, ℕ, zero, suc, ◌<◌, Bool, false, ◌||◌, ◌⊎◌, ◌==◌}
use Rattle.diagrams.specs.Diagrams.{Diagram, leaf, node}

-- What a place holds: nothing, a leaf's word, or a node's level and the handles of its children.
pub data Content : Type 0 where
  free : Content
  leaf_word : ℕ → Content
  node_at : ℕ → ℕ → ℕ → Content

-- A place: what it holds, and how often it is held.
pub record Place : Type 0 where
  pub content : Content
  pub count : ℕ

-- A free place.
abbrev pub vacant : Place
vacant = record { content = free; count = 0 }

-- The handle h stands for a diagram, where `at` tells what each place holds.
abbrev pub Stands : (ℕ → Content) → Diagram → ℕ → Type 0
Stands at (leaf v) h = at h ≡ leaf_word v
Stands at (node l a b) h = (x : ℕ) × (y : ℕ) × (at h ≡ node_at l x y) × Stands at a x × Stands at b y

-- No two places in use hold the same.
abbrev pub Unshared : (ℕ → Content) → Type 0
Unshared at = (g h : ℕ) → at g ≡ at h → (at g ≡ free) ⊎ (g ≡ h)

-- The places reached from 0, from 1 and from those that are held, where `at` tells what each place holds and `count` how often it is held.
pub data Reached (at : ℕ → Content) (count : ℕ → ℕ) : ℕ → Type 0 where
  from_zero : {h : ℕ} → h ≡ 0 → Reached at count h
  from_one : {h : ℕ} → h ≡ 1 → Reached at count h
  from_held : {h : ℕ} → 0 < count h → Reached at count h
  to_low : {g l x y : ℕ} → Reached at count g → at g ≡ node_at l x y → Reached at count x
  to_high : {g l x y : ℕ} → Reached at count g → at g ≡ node_at l x y → Reached at count y

-- Whether a child passes a check.
abbrev pub some_child : (ℕ → Bool) → Content → Bool
some_child p free = false
some_child p (leaf_word v) = false
some_child p (node_at l x y) = p x || p y

-- Whether h is g itself, or lies below g by at most n steps from a node to a child.
unfoldable pub leads : (ℕ → Content) → ℕ → ℕ → ℕ → Bool
leads at zero h g = g == h
leads at (suc n) h g = g == h || some_child (leads at n h) (at g)
