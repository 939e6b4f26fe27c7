-- The building calls: what each means fruit by fruit, and the diagram that answers it. Assumes nothing.
use Rattle.std.specs.Prelude.{ℕ, zero, suc, ◌<◌, ◌≤◌, T}
use Rattle.diagrams.specs.Kinds.{Kind}
use Rattle.diagrams.specs.Layouts.{Decomposition, shannon, positive, negative, Layout, bit, put}
use Rattle.diagrams.specs.Diagrams.{Diagram, leaf, rule, Good, make}

-- The three operations.
pub data Operation : Type 0 where
  sum difference product : Operation

-- A building call whose operands are diagrams: a word's leaf, a mark, two diagrams combined, and a diagram with a mark put to a constant.
pub data Task : Type 0 where
  constant : ℕ → Task
  mark : ℕ → Task
  combine : Operation → Diagram → Diagram → Task
  restrict : Diagram → ℕ → ℕ → Task

-- What an operation does with two words of a kind.
abbrev pub act : Kind → Operation → ℕ → ℕ → ℕ
act K sum = K.sum
act K difference = K.difference
act K product = K.product

-- The low and the high part of a rule f at a level with mark i.
module _ (K : Kind) (i : ℕ) (f : ℕ → ℕ) where
  -- The low part: f with the mark put to 0, at a negative level to 1.
  abbrev pub lower : Decomposition → ℕ → ℕ
  lower shannon fruit = f (put i 0 fruit)
  lower positive fruit = f (put i 0 fruit)
  lower negative fruit = f (put i 1 fruit)

  -- The high part: f with the mark put to 1, or the difference that the mark makes.
  abbrev pub upper : Decomposition → ℕ → ℕ
  upper shannon fruit = f (put i 1 fruit)
  upper positive fruit = K.difference (f (put i 1 fruit)) (f (put i 0 fruit))
  upper negative fruit = K.difference (f (put i 0 fruit)) (f (put i 1 fruit))

module _ (K : Kind) (L : Layout) where
  -- The diagram of a rule f that turns on the marks of k levels, from l on.
  abbrev pub diagram_of : ℕ → ℕ → (ℕ → ℕ) → Diagram
  diagram_of zero l f = leaf (f 0)
  diagram_of (suc k) l f =
      make K L l (diagram_of k (suc l) (lower K (L.mark l) f (L.type l))) (diagram_of k (suc l) (upper K (L.mark l) f (L.type l)))

  -- What a call's answer gives a fruit.
  abbrev pub meaning : Task → ℕ → ℕ
  meaning (constant v) fruit = v
  meaning (mark i) fruit = elim (bit i fruit) [ zero ↦ K.zero | suc _ ↦ K.one ]
  meaning (combine o a b) fruit = act K o (rule K L a fruit) (rule K L b fruit)
  meaning (restrict d i c) fruit = rule K L d (put i c fruit)

  -- The diagram that answers a call: the one of the rule that it means.
  abbrev pub result : Task → Diagram
  result task = diagram_of L.size 0 (meaning task)

  -- A call whose operands are good diagrams from level l on down, and whose word, mark and constant are in range.
  abbrev pub Fit : ℕ → Task → Type 0
  Fit l (constant v) = T (K.value v)
  Fit l (mark i) = (l ≤ L.level i) × (i < L.size)
  Fit l (combine o a b) = Good K L l a × Good K L l b
  Fit l (restrict d i c) = Good K L l d × (i < L.size) × (c < 2)
