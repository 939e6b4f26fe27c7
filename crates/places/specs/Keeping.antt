-- Counting holds, and freeing what is not marked. Assumes nothing.
use Rattle.std.specs.Prelude.{◌≡◌, ℕ, ◌+◌, ◌<◌, ◌≤◌, Bool, cond, not, ◌&&◌, List, length, Some, None, Option, ◌==◌, ◌≢◌, slice_index, slice_index_or}
use Rattle.diagrams.specs.Sizes.{tally}
use Rattle.diagrams.specs.Places.{node_at, vacant}
use Rattle.places.specs.declared.place.Place.{Place as Slot}
use Rattle.places.specs.declared.places.Places.{Places}
use Rattle.places.specs.Contents.{seen_content, blank, in_use}
use Rattle.places.specs.Tables.{place, holds}

-- The count of h becomes x, and nothing else changes.
pub record Counted (before after : Places) (h x : ℕ) : Type 0 where
  pub room : after.capacity ≡ before.capacity
  pub here : place after h ≡ record { content = holds before h; count = x }
  pub elsewhere : (g : ℕ) → (g ≢ h) → place after g ≡ place before g

-- One hold more, and the new count; nothing changes where the count is at its limit, 65,535.
abbrev pub Holding : Places → Places → ℕ → Option ℕ → Type 0
Holding before after h None = ((place before h).count ≡ 65535) × (after ≡ before)
Holding before after h (Some x) = ((place before h).count < 65535) × (x ≡ (place before h).count + 1) × Counted before after h x

-- One hold less, and the new count; nothing changes where the count is 0.
abbrev pub LettingGo : Places → Places → ℕ → Option ℕ → Type 0
LettingGo before after h None = ((place before h).count ≡ 0) × (after ≡ before)
LettingGo before after h (Some x) = (x + 1 ≡ (place before h).count) × Counted before after h x

-- The marks of a list keep places 0 and 1, and with a node its children.
pub record Keeps (t : Places) (marks : List ℕ) : Type 0 where
  pub zero : 0 < slice_index marks 0
  pub one : 0 < slice_index marks 1
  pub children : (h l x y : ℕ) → holds t h ≡ node_at l x y → 0 < slice_index marks h → (0 < slice_index marks x) × (0 < slice_index marks y)

-- Every place below the capacity with a mark is as it was, every other is free; so many places were in use and are free.
pub record Freed (before after : Places) (marks : List ℕ) (freed : ℕ) : Type 0 where
  pub room : after.capacity ≡ before.capacity
  pub kept : (h : ℕ) → 0 < slice_index marks h → place after h ≡ place before h
  pub gone : (h : ℕ) → slice_index marks h ≡ 0 → place after h ≡ vacant
  pub many : freed ≡ tally before.capacity (λ h. in_use (holds before h) && not (in_use (holds after h)))

-- Whether a slot is in use and has no mark.
abbrev pub loose : Slot → ℕ → Bool
loose s mark = mark == 0 && in_use (seen_content s.content)

-- A slot after a sweep: free where it was in use and has no mark.
abbrev pub swept : Slot → ℕ → Slot
swept s mark = cond (loose s mark) blank s

-- Whether the slot of a number is in use and has no mark.
abbrev pub loose_at : List Slot → List ℕ → ℕ → Bool
loose_at slots marks h = loose (slice_index_or slots h blank) (slice_index marks h)

-- As many slots as there are marks are swept, the slots past them are as they were; so many are freed.
pub record Swept (before after : List Slot) (marks : List ℕ) (freed : ℕ) : Type 0 where
  pub size : length after ≡ length before
  pub below : (h : ℕ) → h < length marks → slice_index_or after h blank ≡ swept (slice_index_or before h blank) (slice_index marks h)
  pub rest : (h : ℕ) → length marks ≤ h → slice_index_or after h blank ≡ slice_index_or before h blank
  pub many : freed ≡ tally (length marks) (loose_at before marks)
