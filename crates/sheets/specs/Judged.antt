-- What the next record comes to, as the code tells it. Assumes nothing.
use Rattle.std.specs.Prelude.{◌≡◌, ℕ, ◌<◌, Bool, false, cond, List, [], ◌∷◌, length, drop, Ok, Err, Result, ◌==◌, slice_index}
use Rattle.diagrams.specs.Kinds.{Kind}
use Rattle.diagrams.specs.Layouts.{Layout, type_code}
use Rattle.diagrams.specs.Diagrams.{Diagram, leaf, node}
use Rattle.diagrams.specs.Reading.{Found, bad, part, fine, nth, leaf_found, node_found, end_found, found}
use Rattle.refusals.specs.declared.refusal.Refusal.{Refusal}
use Rattle.refusals.specs.Refusals.{number}
use Rattle.refusals.specs.declared.fault.SheetFault.{SheetFault}
use Rattle.sheets.specs.declared.record.Item.{Item}
use Rattle.sheets.specs.declared.record.Item.TheVariants.{Leaf, Node, End}
use Rattle.sheets.specs.Faults.{Tells}

-- The numbers of a layout's types, by level.
pub record Types (L : Layout) (types : List ℕ) : Type 0 where
  pub size : length types ≡ L.size
  pub type_at : (l : ℕ) → l < L.size → slice_index types l ≡ type_code (L.type l)

-- Whether rule k is broken, by a list of checks.
abbrev pub is_broken : ℕ → List (ℕ × Bool) → Bool
is_broken k [] = false
is_broken k (check ∷ checks) = cond (check.0 == k) check.1 (is_broken k checks)

-- What a record comes to that keeps its rules, or breaks one.
abbrev pub ruled : {A : Type 0} → Result A Refusal → Found → Found
ruled (Ok _) comes = comes
ruled (Err e) comes = bad (number e)

-- What a record comes to that breaks no rule: a leaf or node has its diagram.
abbrev pub stands_for : List Diagram → Item → Found
stands_for seen (Leaf w) = part (leaf w)
stands_for seen (Node l x y) = part (node l (nth seen x) (nth seen y))
stands_for seen (End n) = fine

module _ (K : Kind) (L : Layout) (limit : ℕ) (seen : List Diagram) where
  -- What a record comes to by what it holds, where its frame is right.
  abbrev pub judged : Item → Found
  judged (Leaf w) = leaf_found K L limit seen w
  judged (Node l x y) = node_found K L limit seen l x y
  judged (End n) = end_found K L limit seen n

  -- The record at a byte place, after those of `seen`: what it holds, or the fault that tells what it comes to.
  abbrev pub Next : ℕ → List ℕ → Result Item SheetFault → Type 0
  Next place bytes (Ok item) = found K L limit seen (drop place bytes) ≡ stands_for seen item
  Next place bytes (Err f) = Tells (found K L limit seen (drop place bytes)) place f
