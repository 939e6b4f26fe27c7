-- What walks over the places of a table come to, and what sizes and sweeps answer. Assumes nothing.
use Rattle.std.specs.Prelude.{◌≡◌, ℕ, ◌+◌, ◌<◌, ◌≤◌, Bool, true, false, not, ◌&&◌, ◌||◌, ◌⊎◌, ◌↔◌, List, [], ◌∷◌, length, drop, Ok, Err, Result, nat_lt, slice_index, count_by}
use mathlib.Core.List.{Memᴰ}
use Rattle.diagrams.specs.Diagrams.{Diagram}
use Rattle.diagrams.specs.Sizes.{Distinct, extent, tally}
use Rattle.diagrams.specs.Sheets.{visited, number}
use Rattle.diagrams.specs.Places.{Content, free, leaf_word, node_at, vacant, Stands, Reached}
use Rattle.refusals.specs.declared.refusal.Refusal.{Refusal}
use Rattle.refusals.specs.declared.refusal.Refusal.TheVariants.{NotLive, WalkTooShort}
use Rattle.places.specs.declared.places.Places.{Places}
use Rattle.places.specs.Contents.{in_use}
use Rattle.places.specs.Tables.{place, holds, Used}

-- Handles stand for diagrams, one by one.
abbrev pub StandFor : (ℕ → Content) → List ℕ → List Diagram → Type 0
StandFor at [] [] = Unit {0}
StandFor at [] (d ∷ ds) = ⊥
StandFor at (h ∷ hs) [] = ⊥
StandFor at (h ∷ hs) (d ∷ ds) = Stands at d h × StandFor at hs ds

-- A walk has come to the diagrams `seen`, each once: `order` has their places, in that order, and `marks` has for each such place its number
-- in the order and one, and 0 for any other place in use.
pub record Collected (t : Places) (marks order : List ℕ) (seen : List Diagram) : Type 0 where
  pub distinct : Distinct seen
  pub stand : StandFor (holds t) order seen
  pub marked : (d : Diagram) (h : ℕ) → Stands (holds t) d h → Memᴰ d seen → slice_index marks h ≡ number d seen + 1
  pub unmarked : (d : Diagram) (h : ℕ) → Stands (holds t) d h → (Memᴰ d seen → ⊥) → slice_index marks h ≡ 0

-- A walk from h adds what is reached from h and was not seen: children before parents, low before high. The list past the capacity stays.
pub record Walked (t : Places) (h : ℕ) (marks order marks' order' : List ℕ) : Type 0 where
  pub visits : (d : Diagram) (seen : List Diagram) → Stands (holds t) d h → Collected t marks order seen → Collected t marks' order' (visited d seen)
  pub past : drop t.capacity marks' ≡ drop t.capacity marks

-- Whether a content is a node.
abbrev pub is_node : Content → Bool
is_node free = false
is_node (leaf_word v) = false
is_node (node_at l x y) = true

-- How many of some handles hold nodes.
abbrev pub node_count : (ℕ → Content) → List ℕ → ℕ
node_count at hs = count_by (λ h. is_node (at h)) hs

-- What the size of a handle answers: how many nodes are reached from it, or the first refusal.
abbrev pub Sized : Places → ℕ → List ℕ → Result ℕ Refusal → Type 0
Sized t h walk (Ok x) = Used t h × (t.capacity ≤ length walk) × ((d : Diagram) → Stands (holds t) d h → x ≡ extent d)
Sized t h walk (Err e) = ((e ≡ NotLive) × (Used t h → ⊥)) ⊎ ((e ≡ WalkTooShort) × Used t h × (length walk < t.capacity))

-- The refusal of a walk from a handle whose list is too short: the handle is looked at first.
abbrev pub Unwalked : Places → ℕ → Refusal → Type 0
Unwalked t h e = ((e ≡ NotLive) × (Used t h → ⊥)) ⊎ ((e ≡ WalkTooShort) × Used t h)

-- Whether a place is kept for itself: 0, 1, or one that is held.
abbrev pub root : Places → ℕ → Bool
root t h = nat_lt h 2 || nat_lt 0 (place t h).count

-- What is kept: reached from 0, from 1 or from a place that is held.
abbrev pub Kept : Places → ℕ → Type 0
Kept t = Reached (holds t) (λ h. (place t h).count)

-- Marks of what is kept: a place in use has a mark exactly where it is kept.
abbrev pub KeptMarked : Places → List ℕ → Type 0
KeptMarked t marks = (h : ℕ) → Used t h → (0 < slice_index marks h) ↔ Kept t h

-- Each place is kept, and as it was, or is not kept, and is free; so many places were in use and are free.
pub record Swept (before after : Places) (freed : ℕ) : Type 0 where
  pub room : after.capacity ≡ before.capacity
  pub each : (h : ℕ) → (Kept before h × (place after h ≡ place before h)) ⊎ ((Kept before h → ⊥) × (place after h ≡ vacant))
  pub many : freed ≡ tally before.capacity (λ h. in_use (holds before h) && not (in_use (holds after h)))

-- What a sweep answers: how many places it freed; or the walk list is too short, and nothing changes.
abbrev pub Sweeping : Places → Places → List ℕ → Result ℕ Refusal → Type 0
Sweeping before after walk (Ok x) = (before.capacity ≤ length walk) × Swept before after x
Sweeping before after walk (Err e) = (e ≡ WalkTooShort) × (length walk < before.capacity) × (after ≡ before)
