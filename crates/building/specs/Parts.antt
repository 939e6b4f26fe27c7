-- The parts of a handle at a level, and the node of two parts. Assumes nothing.
use Rattle.std.specs.Prelude.{◌≡◌, ℕ, ◌+◌, Bool, true, false, ◌⊎◌, Some, None, Option}
use Rattle.diagrams.specs.Kinds.{Kind}
use Rattle.diagrams.specs.Layouts.{Decomposition, shannon, positive, negative, Layout}
use Rattle.diagrams.specs.Diagrams.{Diagram, low, high}
use Rattle.diagrams.specs.Tasks.{Operation, sum, difference, product}
use Rattle.diagrams.specs.Places.{leaf_word, node_at, Stands}
use Rattle.places.specs.declared.places.Places.{Places}
use Rattle.places.specs.Tables.{holds, Under, Extends, Filling}

-- The high part, at a level of that type, of a handle that stands deeper; its low part is itself.
abbrev pub spared : Decomposition → ℕ → ℕ
spared shannon h = h
spared positive h = 0
spared negative h = 0

-- Whether an operation takes the parts of its operands crosswise at a level of that type.
abbrev pub crossing : Decomposition → Operation → Bool
crossing t sum = false
crossing t difference = false
crossing shannon product = false
crossing positive product = true
crossing negative product = true

-- A handle, if there is one, is in use and stands on level l or deeper.
abbrev pub NoHigher : Places → ℕ → Option ℕ → Type 0
NoHigher t l None = Unit {0}
NoHigher t l (Some h) = Under t l h

-- The handles x and y are the parts of the handle h at level l, where place 0 holds zero.
pub record Parted (L : Layout) (t : Places) (l h x y : ℕ) : Type 0 where
  pub below_low : Under t (l + 1) x
  pub below_high : Under t (l + 1) y
  pub stand : (K : Kind) → holds t 0 ≡ leaf_word K.zero → (d : Diagram) → Stands (holds t) d h
      → Stands (holds t) (low K L l d) x × Stands (holds t) (high K L l d) y

module _ (L : Layout) (before after : Places) (l x y : ℕ) (r : Option ℕ) where
  -- The drop rule removed the node of x and y: it is x.
  pub record Dropped : Type 0 where
    pub same : y ≡ spared (L.type l) x
    pub told : r ≡ Some x
    pub still : after ≡ before

  -- The node was asked for.
  pub record Noded : Type 0 where
    pub other : y ≡ spared (L.type l) x → ⊥
    pub filling : Filling before after (node_at l x y) r

  -- What asking for the node of x and y at level l did.
  pub record Joined : Type 0 where
    pub kept : Extends before after
    pub inside : NoHigher after l r
    pub how : Dropped ⊎ Noded
