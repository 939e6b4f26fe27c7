-- How a building call is answered from smaller ones, and which diagrams it needs. Assumes nothing.
use Rattle.std.specs.Prelude.{◌≡◌, ℕ, zero, suc, min, Bool, true, false, ◌⊎◌, List, [], ◌∷◌}
use mathlib.Core.List.{Memᴰ}
use Rattle.std.proofs.Math.Option.{Option, none, some}
use Prim.Native.Nat.{Ordering}
use Prim.Native.Nat.{compare}
use Rattle.diagrams.specs.Kinds.{Kind}
use Rattle.diagrams.specs.Layouts.{Decomposition, shannon, positive, negative, Layout}
use Rattle.diagrams.specs.Diagrams.{Diagram, leaf, node, same, top, low, high, make}
use Rattle.diagrams.specs.Tasks.{Operation, sum, difference, product, act, Task, constant, mark, combine, restrict, result}

-- The value below the node of a mark, low.
abbrev pub mark_low : Kind → Decomposition → ℕ
mark_low K shannon = K.zero
mark_low K positive = K.zero
mark_low K negative = K.one

-- The value below the node of a mark, high.
abbrev pub mark_high : Kind → Decomposition → ℕ
mark_high K shannon = K.one
mark_high K positive = K.one
mark_high K negative = K.difference K.zero K.one

-- d where a and b are one diagram, else what the rest says.
abbrev pub where_same : Diagram → Diagram → Diagram → Option Diagram → Option Diagram
where_same a b d rest = elim (same a b) [ yes _ ↦ some d | no _ ↦ rest ]

module _ (K : Kind) where
  -- Two leaves are combined at once.
  abbrev pub leaves : Operation → Diagram → Diagram → Option Diagram
  leaves o (leaf u) (leaf v) = some (leaf (act K o u v))
  leaves o (leaf u) (node l a b) = none
  leaves o (node l a b) d = none

  -- The shortcuts of a combination.
  abbrev pub quick : Operation → Diagram → Diagram → Option Diagram
  quick sum a b = where_same a (leaf K.zero) b (where_same b (leaf K.zero) a (leaves sum a b))
  quick difference a b = where_same b (leaf K.zero) a (where_same a b (leaf K.zero) (leaves difference a b))
  quick product a b =
      where_same a (leaf K.zero) (leaf K.zero) (where_same b (leaf K.zero) (leaf K.zero)
      (where_same a (leaf K.one) b (where_same b (leaf K.one) a (leaves product a b))))

-- How a call is answered. A shortcut: its answer, and the calls on the way to that. Else it splits at a level: the calls that answer its
-- low and its high part, and the calls on the way to these.
pub data Split : Type 0 where
  short : Diagram → List Task → Split
  long : ℕ → Task → Task → List Task → Split

-- The smaller calls of a way to answer.
abbrev pub smaller_of : Split → List Task
smaller_of (short d way) = way
smaller_of (long l lower higher way) = lower ∷ higher ∷ way

-- Whether it is a shortcut.
abbrev pub is_short : Split → Bool
is_short (short d way) = true
is_short (long l lower higher way) = false

module _ (K : Kind) (L : Layout) where
  -- Of a combination of the parts (la, ha) and (lb, hb): the call that answers its high part, and those on the way to that.
  module _ (la ha lb hb : Diagram) where
    -- The sum of the two products of a low and a high part.
    abbrev pub crossed : Task
    crossed = combine sum (result K L (combine product la hb)) (result K L (combine product ha lb))

    -- The call that answers the high part, at a level of that type.
    abbrev pub high_call : Decomposition → Operation → Task
    high_call t sum = combine sum ha hb
    high_call t difference = combine difference ha hb
    high_call shannon product = combine product ha hb
    high_call positive product = combine sum (result K L crossed) (result K L (combine product ha hb))
    high_call negative product = combine sum (result K L crossed) (result K L (combine product ha hb))

    -- The calls whose answers that call is given.
    abbrev pub on_the_way : Decomposition → Operation → List Task
    on_the_way t sum = []
    on_the_way t difference = []
    on_the_way shannon product = []
    on_the_way positive product = combine product la hb ∷ combine product ha lb ∷ crossed ∷ combine product ha hb ∷ []
    on_the_way negative product = combine product la hb ∷ combine product ha lb ∷ crossed ∷ combine product ha hb ∷ []

  -- The call that answers the low part of a combination at level l.
  abbrev pub low_part : ℕ → Operation → Diagram → Diagram → Task
  low_part l o a b = combine o (low K L l a) (low K L l b)

  -- The call that answers its high part there.
  abbrev pub high_part : ℕ → Operation → Diagram → Diagram → Task
  high_part l o a b = high_call (low K L l a) (high K L l a) (low K L l b) (high K L l b) (L.type l) o

  -- What a restriction to c leaves of a node of its mark.
  abbrev pub chosen : Decomposition → ℕ → Diagram → Diagram → Diagram
  chosen shannon zero a b = a
  chosen shannon (suc c) a b = b
  chosen positive zero a b = a
  chosen positive (suc c) a b = result K L (combine sum a b)
  chosen negative zero a b = result K L (combine sum a b)
  chosen negative (suc c) a b = a

  -- The calls that this takes.
  abbrev pub choosing : Decomposition → ℕ → Diagram → Diagram → List Task
  choosing shannon c a b = []
  choosing positive zero a b = []
  choosing positive (suc c) a b = combine sum a b ∷ []
  choosing negative zero a b = combine sum a b ∷ []
  choosing negative (suc c) a b = []

  -- How each call is answered. What it needs, whether it is a shortcut and its answer are all read off this.
  abbrev pub split : Task → Split
  split (constant v) = short (leaf v) []
  split (mark i) =
      let t = L.type (L.level i) in
      short (node (L.level i) (leaf (mark_low K t)) (leaf (mark_high K t))) (constant (mark_low K t) ∷ constant (mark_high K t) ∷ [])
  split (combine o a b) =
      let l = min (top L a) (top L b) in
      elim (quick K o a b) [
        | some d ↦ short d []
        | none ↦ long l (low_part l o a b) (high_part l o a b) (on_the_way (low K L l a) (high K L l a) (low K L l b) (high K L l b) (L.type l) o)
      ]
  split (restrict (leaf v) i c) = short (leaf v) []
  split (restrict (node l a b) i c) =
      elim (compare l (L.level i)) [
        | Ordering.lt ↦ long l (restrict a i c) (restrict b i c) []
        | Ordering.eq ↦ short (chosen (L.type l) c a b) (choosing (L.type l) c a b)
        | Ordering.gt ↦ short (node l a b) []
      ]

  -- The answer that a way gives, from the answers of smaller calls.
  abbrev pub composed_of : Split → Diagram
  composed_of (short d way) = d
  composed_of (long l lower higher way) = make K L l (result K L lower) (result K L higher)

  -- A call's answer, from the answers of smaller calls; that it is `result` is a theorem.
  abbrev pub composed : Task → Diagram
  composed task = composed_of (split task)

  -- The smaller calls of a call.
  abbrev pub smaller : Task → List Task
  smaller task = smaller_of (split task)

  -- A call that makes no entry in a store under its own key.
  abbrev pub shortcut : Task → Bool
  shortcut task = is_short (split task)

  -- A call, and the calls inside it.
  pub data Inside : Task → Task → Type 0 where
    itself : {task part : Task} → part ≡ task → Inside task part
    deeper : {task next part : Task} → Memᴰ next (smaller task) → Inside next part → Inside task part

  -- The diagrams that a call needs: the answers of the calls inside it.
  pub record Needs (task : Task) (d : Diagram) : Type 0 where
    pub part : Task
    pub inside : Inside task part
    pub is : d ≡ result K L part

  -- The diagrams that a call is given.
  abbrev pub Operand : Task → Diagram → Type 0
  Operand (constant v) d = ⊥
  Operand (mark i) d = ⊥
  Operand (combine o a b) d = (d ≡ a) ⊎ (d ≡ b)
  Operand (restrict a i c) d = d ≡ a

  -- What a call has at hand: a part of an operand at some level, or the answer of a smaller call.
  pub data AtHand (task : Task) (d : Diagram) : Type 0 where
    low_of : (a : Diagram) (l : ℕ) → Operand task a → d ≡ low K L l a → AtHand task d
    high_of : (a : Diagram) (l : ℕ) → Operand task a → d ≡ high K L l a → AtHand task d
    result_of : (part : Task) → Memᴰ part (smaller task) → d ≡ result K L part → AtHand task d
