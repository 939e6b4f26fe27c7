-- Diagrams, their rules, the good ones among them, and their parts at a level. Assumes nothing.
use Rattle.std.specs.Prelude.{◌≡◌, ℕ, zero, suc, ◌<◌, ◌≤◌, T}
use Rattle.std.proofs.Math.Decide.{ℕ_discrete}
use Rattle.diagrams.specs.Kinds.{Kind, Laws}
use Rattle.diagrams.specs.Layouts.{Decomposition, shannon, positive, negative, Layout, Valid, bit}

-- A kind with its laws and a valid layout.
pub record Lawful (K : Kind) (L : Layout) : Type 0 where
  pub laws : Laws K
  pub valid : Valid L

-- A leaf of a word, or a node of a level, a low and a high child.
pub data Diagram : Type 0 where
  leaf : ℕ → Diagram
  node : ℕ → Diagram → Diagram → Diagram
  deriving Discrete as discrete

-- Whether two diagrams are one.
unfoldable pub same : Discrete Diagram
unfolding ℕ_discrete
same = discrete ℕ_discrete

module _ (K : Kind) where
  -- What a node of the values u below low and v below high comes to, where its mark is c.
  abbrev pub join : Decomposition → ℕ → ℕ → ℕ → ℕ
  join shannon zero u v = u
  join shannon (suc c) u v = v
  join positive zero u v = u
  join positive (suc c) u v = K.sum u v
  join negative zero u v = K.sum u v
  join negative (suc c) u v = u

  -- The high part, at a level of that type, of a diagram d that stands deeper; its low part is d itself.
  abbrev pub spare : Decomposition → Diagram → Diagram
  spare shannon d = d
  spare positive d = leaf K.zero
  spare negative d = leaf K.zero

-- The level on which a diagram stands; leaves stand deepest.
abbrev pub top : Layout → Diagram → ℕ
top L (leaf v) = L.size
top L (node l a b) = l

module _ (K : Kind) (L : Layout) where
  -- What a diagram gives a fruit.
  abbrev pub rule : Diagram → ℕ → ℕ
  rule (leaf v) fruit = v
  rule (node l a b) fruit = join K (L.type l) (bit (L.mark l) fruit) (rule a fruit) (rule b fruit)

  -- Ordered, with values at its leaves, and reduced, from level l on down.
  abbrev pub Good : ℕ → Diagram → Type 0
  Good l (leaf v) = T (K.value v)
  Good l (node m a b) = (l ≤ m) × (m < L.size) × Good (suc m) a × Good (suc m) b × (¬ (b ≡ spare K (L.type m) a))

  -- The low part of a diagram at a level: its low child if it stands there, else itself.
  abbrev pub low : ℕ → Diagram → Diagram
  low l (leaf v) = leaf v
  low l (node m a b) = elim (ℕ_discrete l m) [ yes _ ↦ a | no _ ↦ node m a b ]

  -- The high part of a diagram at a level: its high child if it stands there, else what `spare` gives.
  abbrev pub high : ℕ → Diagram → Diagram
  high l (leaf v) = spare K (L.type l) (leaf v)
  high l (node m a b) = elim (ℕ_discrete l m) [ yes _ ↦ b | no _ ↦ spare K (L.type l) (node m a b) ]

  -- The node, unless the drop rule removes it: what has the parts of a deeper diagram is that diagram.
  abbrev pub make : ℕ → Diagram → Diagram → Diagram
  make l a b = elim (same b (spare K (L.type l) a)) [ yes _ ↦ a | no _ ↦ node l a b ]
