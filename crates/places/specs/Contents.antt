-- What the places of a table hold, as the theory sees it, and the rules that they keep. Assumes nothing.
use Rattle.std.specs.Prelude.{◌≡◌, ℕ, ◌+◌, ◌<◌, ◌≤◌, Bool, true, false, ◌&&◌, ◌||◌, List, get_or, Some, None, Option, ◌==◌, nat_lt, slice_index_or}
use Rattle.diagrams.specs.Places.{Content, free, leaf_word, node_at, Place}
use Rattle.places.specs.declared.place.Content.{Content as Stored}
use Rattle.places.specs.declared.place.Content.TheVariants.{Free, Leaf, Node}
use Rattle.places.specs.declared.place.Place.{Place as Slot}

-- What a slot's content means.
abbrev pub seen_content : Stored → Content
seen_content Free = free
seen_content (Leaf word) = leaf_word word
seen_content (Node level low high) = node_at level low high

-- The place that a slot is.
abbrev pub seen : Slot → Place
seen s = record { content = seen_content s.content; count = s.count }

-- A free slot.
abbrev pub blank : Slot
blank = record { content = Free; count = 0 }

-- A slot with another count.
abbrev pub with_count : Slot → ℕ → Slot
with_count s x = record { content = s.content; count = x }

-- One hold more of a slot, and the new count; nothing changes where the count is at its limit, 65,535.
abbrev pub HeldMore : Slot → Option ℕ → Slot → Type 0
HeldMore before None after = (before.count ≡ 65535) × (after ≡ before)
HeldMore before (Some x) after = (before.count < 65535) × (x ≡ before.count + 1) × (after ≡ with_count before x)

-- One hold less of a slot, and the new count; nothing changes where the count is 0.
abbrev pub HeldLess : Slot → Option ℕ → Slot → Type 0
HeldLess before None after = (before.count ≡ 0) × (after ≡ before)
HeldLess before (Some x) after = (x + 1 ≡ before.count) × (after ≡ with_count before x)

-- The place of a number among slots; a number past them has a free place.
abbrev pub place_at : List Slot → ℕ → Place
place_at slots h = seen (slice_index_or slots h blank)

-- What the place of a number holds.
abbrev pub at : List Slot → ℕ → Content
at slots h = seen_content (get_or slots h blank).content

-- Whether a content is a leaf or a node.
abbrev pub in_use : Content → Bool
in_use free = false
in_use (leaf_word v) = true
in_use (node_at l x y) = true

-- Whether a content is a leaf.
abbrev pub leafy : Content → Bool
leafy free = false
leafy (leaf_word v) = true
leafy (node_at l x y) = false

-- The level on which a content stands; leaves stand deepest.
abbrev pub depth : Content → ℕ
depth free = 32
depth (leaf_word v) = 32
depth (node_at l x y) = l

-- Whether a place is in use and stands deeper than a level.
abbrev pub below : (ℕ → Content) → ℕ → ℕ → Bool
below held l h = in_use (held h) && nat_lt l (depth (held h))

-- Whether a content's level is one of 32, and its children are in use and stand deeper.
abbrev pub deep : (ℕ → Content) → Content → Bool
deep held free = true
deep held (leaf_word v) = true
deep held (node_at l x y) = nat_lt l 32 && below held l x && below held l y

-- Whether a place is in use, or nobody holds it.
abbrev pub quiet : Place → Bool
quiet p = in_use p.content || p.count == 0

-- No place from the capacity on is in use.
abbrev pub Past : ℕ → List Slot → Type 0
Past capacity slots = (h : ℕ) → capacity ≤ h → in_use (at slots h) ≡ false

-- Nobody holds a free place.
abbrev pub Idle : List Slot → Type 0
Idle slots = (h : ℕ) → quiet (place_at slots h) ≡ true

-- The children of each node are in use and stand deeper.
abbrev pub Deeper : List Slot → Type 0
Deeper slots = (h : ℕ) → deep (at slots) (at slots h) ≡ true

-- No two places in use hold the same.
abbrev pub Apart : List Slot → Type 0
Apart slots = (g h : ℕ) → (in_use (at slots g) ≡ true) × (at slots g ≡ at slots h) → g ≡ h

-- Slots of which the first two hold leaves and the others nothing.
pub record Starting (slots : List Slot) (zero one : ℕ) : Type 0 where
  pub first : get_or slots 0 blank ≡ record { content = Leaf zero; count = 0 }
  pub second : get_or slots 1 blank ≡ record { content = Leaf one; count = 0 }
  pub rest : (h : ℕ) → 2 ≤ h → slice_index_or slots h blank ≡ blank
