-- How many different diagrams a list holds, the size of a diagram, and how many numbers pass a check. Assumes nothing.
use Rattle.std.specs.Prelude.{◌≡◌, ℕ, zero, suc, ◌+◌, Bool, cond, List, [], ◌∷◌, ◌++◌, length}
use mathlib.Core.List.Memᴰ
use mathlib.Core.List.{Memᴰ}
use Rattle.std.proofs.Common.{inl, inr}
use Rattle.diagrams.specs.Diagrams.{Diagram, leaf, node, same}

-- Whether a diagram stands in a list.
abbrev pub among : (d : Diagram) (ds : List Diagram) → Dec (Memᴰ d ds)
among d [] = no Memᴰ.not-nil
among d (e ∷ es) =
    elim (same d e) [
      | yes p ↦ yes (Memᴰ.head p)
      | no n ↦ elim (among d es) [ yes m ↦ yes (Memᴰ.tail m) | no m ↦ no (λ k. elim (Memᴰ.cases_cons k) [ inl p ↦ n p | inr q ↦ m q ]) ]
    ]

-- The diagrams of a list, each once.
abbrev pub once : List Diagram → List Diagram
once [] = []
once (d ∷ ds) = elim (among d ds) [ yes _ ↦ once ds | no _ ↦ d ∷ once ds ]

-- How many different diagrams a list holds.
abbrev pub different : List Diagram → ℕ
different ds = length (once ds)

-- Nothing stands twice in a list.
abbrev pub Distinct : {A : Type 0} → List A → Type 0
Distinct [] = Unit {0}
Distinct (d ∷ ds) = (¬ Memᴰ d ds) × Distinct ds

-- The nodes reached from a diagram, leaves not counted.
abbrev pub nodes : Diagram → List Diagram
nodes (leaf v) = []
nodes (node l a b) = node l a b ∷ nodes a ++ nodes b

-- The size of a diagram: how many different nodes are reached from it.
abbrev pub extent : Diagram → ℕ
extent d = different (nodes d)

-- What is reached from a diagram: itself, and what is reached from its children.
pub data Within (x : Diagram) : Diagram → Type 0 where
  itself : {d : Diagram} → x ≡ d → Within x d
  in_low : {l : ℕ} {a b : Diagram} → Within x a → Within x (node l a b)
  in_high : {l : ℕ} {a b : Diagram} → Within x b → Within x (node l a b)

-- How many numbers below n pass a check.
unfoldable pub tally : ℕ → (ℕ → Bool) → ℕ
tally zero p = 0
tally (suc n) p = tally n p + cond (p n) 1 0
