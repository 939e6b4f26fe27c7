-- What a table of places holds, and what its calls do to it. Assumes nothing.
use Rattle.std.specs.Prelude.{◌≡◌, ℕ, ◌<◌, ◌≤◌, true, false, List, map, take, Some, None, Option, ◌≢◌}
use Rattle.diagrams.specs.Diagrams.{Diagram}
use Rattle.diagrams.specs.Places.{Content, leaf_word, Place, vacant, Stands}
use Rattle.places.specs.declared.places.Places.{Places}
use Rattle.places.specs.declared.saved.Saved.{Saved}
use Rattle.places.specs.Contents.{seen, place_at, at, in_use, depth}

-- The place of a handle.
abbrev pub place : Places → ℕ → Place
place t h = place_at t.places h

-- What the place of a handle holds.
abbrev pub holds : Places → ℕ → Content
holds t h = at t.places h

-- The places of a table, as many as its capacity.
abbrev pub list_of : Places → List Place
list_of t = map seen (take t.capacity t.places)

-- The place of a handle is in use.
abbrev pub Used : Places → ℕ → Type 0
Used t h = in_use (holds t h) ≡ true

-- A place in use that stands on level l or deeper.
pub record Under (t : Places) (l h : ℕ) : Type 0 where
  pub used : Used t h
  pub level : l ≤ depth (holds t h)

-- A diagram is in use.
abbrev pub Held : Places → Diagram → Type 0
Held t d = (h : ℕ) × Stands (holds t) d h

-- A table that holds two leaves and nothing else.
pub record Fresh (t : Places) (capacity zero one : ℕ) : Type 0 where
  pub room : t.capacity ≡ capacity
  pub first : place t 0 ≡ record { content = leaf_word zero; count = 0 }
  pub second : place t 1 ≡ record { content = leaf_word one; count = 0 }
  pub rest : (h : ℕ) → 2 ≤ h → place t h ≡ vacant

-- Where a content stands among the first n; nothing, where it stands at none of them.
abbrev pub Found : (ℕ → Content) → ℕ → Content → Option ℕ → Type 0
Found held n c None = (h : ℕ) → h < n → held h ≢ c
Found held n c (Some h) = (h < n) × (held h ≡ c)

-- Where a content stands below the capacity.
abbrev pub Sought : Places → Content → Option ℕ → Type 0
Sought t = Found (holds t) t.capacity

-- Places in use stay as they were, and nobody holds a place that came into use.
pub record Extends (before after : Places) : Type 0 where
  pub room : after.capacity ≡ before.capacity
  pub same : (h : ℕ) → Used before h → place after h ≡ place before h
  pub fresh : (h : ℕ) → in_use (holds before h) ≡ false → Used after h → (place after h).count ≡ 0

-- The place h holds the content and alone may be new; nothing changes where the content stood already.
pub record Given (before after : Places) (c : Content) (h : ℕ) : Type 0 where
  pub extends : Extends before after
  pub here : holds after h ≡ c
  pub others : (g : ℕ) → (g ≢ h) → place after g ≡ place before g
  pub known : (g : ℕ) → holds before g ≡ c → after ≡ before

-- Nothing changes, no place is free, and none holds the content.
pub record Refused (before after : Places) (c : Content) : Type 0 where
  pub still : after ≡ before
  pub full : (h : ℕ) → h < before.capacity → Used before h
  pub absent : (h : ℕ) → holds before h ≢ c

-- What asking for the place of a content does.
abbrev pub Filling : Places → Places → Content → Option ℕ → Type 0
Filling before after c None = Refused before after c
Filling before after c (Some h) = Given before after c h

-- The place of a number, if it is in use.
abbrev pub Live : Places → ℕ → Option ℕ → Type 0
Live t h None = Used t h → ⊥
Live t h (Some g) = (g ≡ h) × Used t h

-- An answer, if its place is in use and stands on level l or deeper.
abbrev pub Trusted : Places → ℕ → Option ℕ → Option ℕ → Type 0
Trusted t l answer None = (h : ℕ) → answer ≡ Some h → Under t l h → ⊥
Trusted t l answer (Some h) = (answer ≡ Some h) × Under t l h

-- The table that was saved.
abbrev pub kept : Saved → Places
kept s = s.places
