-- Rule tables, as they stand between two calls. Assumes nothing.
use Rattle.std.specs.Prelude.{◌≡◌, ℕ, ◌<◌, ◌≤◌, ◌⊎◌, ◌↔◌, List, length, slice_index_or}
use mathlib.Core.List.{Memᴰ}
use Rattle.diagrams.specs.Kinds.{Kind}
use Rattle.diagrams.specs.Layouts.{Layout, Capacious, Fruit}
use Rattle.diagrams.specs.Diagrams.{Diagram, rule}
use Rattle.diagrams.specs.Sizes.{Distinct}
use Rattle.diagrams.specs.Places.{Content, free, leaf_word, Place, vacant, Stands}
use Rattle.histories.specs.Stores.{Entries, Forgotten}

-- A table is open, or released.
pub data Phase : Type 0 where
  opened released : Phase

-- A table: its layout, its places, what its store answers to a key, and whether it is open. A handle is a place's number.
pub record Model : Type 0 where
  pub layout : Layout
  pub places : List Place
  pub entries : Entries
  pub phase : Phase

-- The number of places.
abbrev pub capacity : Model → ℕ
capacity m = length m.places

-- The place of a handle; past the capacity there is none, which reads as a free one.
abbrev pub place : Model → ℕ → Place
place m h = slice_index_or m.places h vacant

-- What the place of a handle holds.
abbrev pub content : Model → ℕ → Content
content m h = (place m h).content

-- How often a handle is held.
abbrev pub count : Model → ℕ → ℕ
count m h = (place m h).count

-- A handle is live while its place is in use.
abbrev pub Live : Model → ℕ → Type 0
Live m h = ¬ (content m h ≡ free)

-- The handle h stands for the diagram d.
abbrev pub StandsFor : Model → Diagram → ℕ → Type 0
StandsFor m = Stands (content m)

-- A diagram is in use where some handle stands for it. Good diagrams and rules are one to one (`Canonical`), so this counts rules.
abbrev pub InUse : Model → Diagram → Type 0
InUse m d = (h : ℕ) × StandsFor m d h

-- The diagrams in use and those with P together outnumber the places. As diagrams and rules are one to one, so do the rules.
abbrev pub Outnumber : Model → (Diagram → Type 0) → Type 0
Outnumber m P =
    (ds : List Diagram) × Distinct ds × ((d : Diagram) → Memᴰ d ds → InUse m d ⊎ P d) × (capacity m < length ds)

-- Exactly x handles have P.
abbrev pub Exactly : ℕ → (ℕ → Type 0) → Type 0
Exactly x P = (hs : List ℕ) × Distinct hs × ((h : ℕ) → Memᴰ h hs ↔ P h) × (length hs ≡ x)

-- Two rules agree on every fruit.
abbrev pub Agree : Layout → (ℕ → ℕ) → (ℕ → ℕ) → Type 0
Agree L f g = (fruit : ℕ) → Fruit L fruit → f fruit ≡ g fruit

-- The handle h is live, and its rule is f.
abbrev pub HasRule : Kind → Layout → Model → ℕ → (ℕ → ℕ) → Type 0
HasRule K L m h f = (d : Diagram) × StandsFor m d h × Agree L (rule K L d) f

-- A table of layout L and capacity c as making leaves it, whatever its store.
pub record Made (K : Kind) (L : Layout) (c : ℕ) (m : Model) : Type 0 where
  pub layout : m.layout ≡ L
  pub room : capacity m ≡ c
  pub range : Capacious c
  pub zero : place m 0 ≡ record { content = leaf_word K.zero; count = 0 }
  pub one : place m 1 ≡ record { content = leaf_word K.one; count = 0 }
  pub rest : (h : ℕ) → 2 ≤ h → place m h ≡ vacant
  pub entries : Forgotten m.entries
  pub phase : m.phase ≡ opened
