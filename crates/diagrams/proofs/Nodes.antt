-- The parts of a diagram, the node that they make, and its rule. Assumes nothing.
use Rattle.std.proofs.Common.{◌≡◌, ℕ, zero, suc, ◌<◌, ◌≤◌, T, sym, refl, ap, ◌∙◌, ap₂, arith}
use native.Mathlib.Decide.{ℕ_discrete}
use Rattle.diagrams.specs.Kinds.{Kind}
use Rattle.diagrams.specs.Layouts.{Decomposition, shannon, positive, negative, Layout, bit, put}
use Rattle.diagrams.specs.Diagrams.{Lawful, Diagram, leaf, node, same, join, spare, rule, Good, low, high, make}
use Rattle.diagrams.proofs.Bits.{bit_put, bit_put_other}

module _ {K : Kind} {L : Layout} (ok : Lawful K L) where
  open ok use {laws, valid}

  pub join_value : (t : Decomposition) (c u v : ℕ) → T (K.value u) → T (K.value v) → T (K.value (join K t c u v))
  join_value shannon zero u v p q = p
  join_value shannon (suc c) u v p q = q
  join_value positive zero u v p q = p
  join_value positive (suc c) u v p q = laws.arithmetic.sum_value u v p q
  join_value negative zero u v p q = laws.arithmetic.sum_value u v p q
  join_value negative (suc c) u v p q = p

  pub join_spare : (t : Decomposition) (c : ℕ) (d : Diagram) (w : ℕ) → T (K.value (rule K L d w))
      → join K t c (rule K L d w) (rule K L (spare K t d) w) ≡ rule K L d w
  join_spare shannon zero d w p = refl
  join_spare shannon (suc c) d w p = refl
  join_spare positive zero d w p = refl
  join_spare positive (suc c) d w p = laws.arithmetic.sum_zero _ p
  join_spare negative zero d w p = laws.arithmetic.sum_zero _ p
  join_spare negative (suc c) d w p = refl

  pub cancel : (u v v' : ℕ) → T (K.value u) → T (K.value v) → T (K.value v') → K.sum u v ≡ K.sum u v' → v ≡ v'
  cancel u v v' p q r e =
      sym (laws.arithmetic.sum_difference v u q p) ∙ ap (λ x. K.difference x u) (laws.arithmetic.sum_comm v u q p ∙ e ∙ laws.arithmetic.sum_comm u v' p r)
      ∙ laws.arithmetic.sum_difference v' u r p

  pub join_apart : (t : Decomposition) (u v u' v' : ℕ) → T (K.value u) → T (K.value v) → T (K.value v')
      → join K t 0 u v ≡ join K t 0 u' v' → join K t 1 u v ≡ join K t 1 u' v' → (u ≡ u') × (v ≡ v')
  join_apart shannon u v u' v' p q r e₀ e₁ = (e₀, e₁)
  join_apart positive u v u' v' p q r e₀ e₁ = (e₀, cancel u v v' p q r (e₁ ∙ ap (λ x. K.sum x v') (sym e₀)))
  join_apart negative u v u' v' p q r e₀ e₁ = (e₁, cancel u v v' p q r (e₀ ∙ ap (λ x. K.sum x v') (sym e₁)))

  pub rule_value : (l : ℕ) (d : Diagram) → Good K L l d → (w : ℕ) → T (K.value (rule K L d w))
  rule_value l (leaf v) g w = g
  rule_value l (node m a b) g w =
      join_value (L.type m) (bit (L.mark m) w) _ _ (rule_value (suc m) a g.2 w) (rule_value (suc m) b g.3 w)

  pub good_up : (l m : ℕ) (d : Diagram) → l ≤ m → Good K L m d → Good K L l d
  good_up l m (leaf v) h g = g
  good_up l m (node k a b) h g = (omega arith, g.1, g.2, g.3, g.4)

  pub make_self : (l : ℕ) (d : Diagram) → make K L l d (spare K (L.type l) d) ≡ d
  make_self l d =
      elim (same (spare K (L.type l) d) (spare K (L.type l) d)) as (λ s. elim s [ yes _ ↦ d | no _ ↦ node l d (spare K (L.type l) d) ] ≡ d)
      [ yes _ ↦ refl | no h ↦ absurd (h refl) ]

  pub make_kept : (l : ℕ) (a b : Diagram) → ¬ (b ≡ spare K (L.type l) a) → make K L l a b ≡ node l a b
  make_kept l a b h =
      elim (same b (spare K (L.type l) a)) as (λ s. elim s [ yes _ ↦ a | no _ ↦ node l a b ] ≡ node l a b)
      [ yes e ↦ absurd (h e) | no _ ↦ refl ]

  pub rule_make : (l : ℕ) (a b : Diagram) (w : ℕ) → T (K.value (rule K L a w))
      → rule K L (make K L l a b) w ≡ join K (L.type l) (bit (L.mark l) w) (rule K L a w) (rule K L b w)
  rule_make l a b w p =
      let together : ℕ → ℕ = join K (L.type l) (bit (L.mark l) w) (rule K L a w) in
      elim (same b (spare K (L.type l) a)) as (λ s. rule K L (elim s [ yes _ ↦ a | no _ ↦ node l a b ]) w ≡ together (rule K L b w))
      [ yes e ↦ sym (ap (λ d. together (rule K L d w)) e ∙ join_spare (L.type l) (bit (L.mark l) w) a w p) | no _ ↦ refl ]

  pub make_good : (l : ℕ) (a b : Diagram) → l < L.size → Good K L (suc l) a → Good K L (suc l) b → Good K L l (make K L l a b)
  make_good l a b h ga gb =
      elim (same b (spare K (L.type l) a)) as (λ s. Good K L l (elim s [ yes _ ↦ a | no _ ↦ node l a b ]))
      [ yes _ ↦ good_up l (suc l) a (omega arith) ga | no n ↦ (omega arith, h, ga, gb, n) ]

  pub spare_good : (t : Decomposition) (l : ℕ) (d : Diagram) → Good K L l d → Good K L l (spare K t d)
  spare_good shannon l d g = g
  spare_good positive l d g = laws.arithmetic.zero_value
  spare_good negative l d g = laws.arithmetic.zero_value

  -- The parts of a diagram make it.
  pub make_parts : (l : ℕ) (d : Diagram) → Good K L l d → make K L l (low K L l d) (high K L l d) ≡ d
  make_parts l (leaf v) g = make_self l (leaf v)
  make_parts l (node m a b) g =
      elim (ℕ_discrete l m)
      as (λ s. make K L l (elim s [ yes _ ↦ a | no _ ↦ node m a b ]) (elim s [ yes _ ↦ b | no _ ↦ spare K (L.type l) (node m a b) ]) ≡ node m a b)
      [ yes e ↦ rw e (make_kept m a b g.4) | no _ ↦ make_self l (node m a b) ]

  pub low_good : (l : ℕ) (d : Diagram) → Good K L l d → Good K L (suc l) (low K L l d)
  low_good l (leaf v) g = g
  low_good l (node m a b) g =
      elim (ℕ_discrete l m) as (λ s. Good K L (suc l) (elim s [ yes _ ↦ a | no _ ↦ node m a b ]))
      [ yes e ↦ rw e g.2 | no n ↦ (omega arith, g.1, g.2, g.3, g.4) ]

  pub high_good : (l : ℕ) (d : Diagram) → Good K L l d → Good K L (suc l) (high K L l d)
  high_good l (leaf v) g = spare_good (L.type l) (suc l) (leaf v) g
  high_good l (node m a b) g =
      elim (ℕ_discrete l m) as (λ s. Good K L (suc l) (elim s [ yes _ ↦ b | no _ ↦ spare K (L.type l) (node m a b) ])) [
        | yes e ↦ rw e g.3
        | no n ↦ spare_good (L.type l) (suc l) (node m a b) (omega arith, g.1, g.2, g.3, g.4)
      ]

  pub low_here : (l : ℕ) (a b : Diagram) → low K L l (node l a b) ≡ a
  low_here l a b = elim (ℕ_discrete l l) as (λ s. elim s [ yes _ ↦ a | no _ ↦ node l a b ] ≡ a) [ yes _ ↦ refl | no n ↦ absurd (n refl) ]

  pub high_here : (l : ℕ) (a b : Diagram) → high K L l (node l a b) ≡ b
  high_here l a b =
      elim (ℕ_discrete l l) as (λ s. elim s [ yes _ ↦ b | no _ ↦ spare K (L.type l) (node l a b) ] ≡ b) [ yes _ ↦ refl | no n ↦ absurd (n refl) ]

  -- A diagram that stands deeper parts into itself and what it has to spare.
  pub low_deeper : (l : ℕ) (d : Diagram) → Good K L (suc l) d → low K L l d ≡ d
  low_deeper l (leaf v) g = refl
  low_deeper l (node m a b) g =
      elim (ℕ_discrete l m) as (λ s. elim s [ yes _ ↦ a | no _ ↦ node m a b ] ≡ node m a b) [ yes e ↦ absurd (omega arith) | no _ ↦ refl ]

  pub high_deeper : (l : ℕ) (d : Diagram) → Good K L (suc l) d → high K L l d ≡ spare K (L.type l) d
  high_deeper l (leaf v) g = refl
  high_deeper l (node m a b) g =
      elim (ℕ_discrete l m) as (λ s. elim s [ yes _ ↦ b | no _ ↦ spare K (L.type l) (node m a b) ] ≡ spare K (L.type l) (node m a b))
      [ yes e ↦ absurd (omega arith) | no _ ↦ refl ]

  pub rule_parts : (l : ℕ) (d : Diagram) → Good K L l d → (w : ℕ)
      → rule K L d w ≡ join K (L.type l) (bit (L.mark l) w) (rule K L (low K L l d) w) (rule K L (high K L l d) w)
  rule_parts l d g w =
      ap (λ d. rule K L d w) (sym (make_parts l d g)) ∙ rule_make l (low K L l d) (high K L l d) w (rule_value (suc l) _ (low_good l d g) w)

  -- A rule turns on the marks of its levels alone.
  pub rule_local : (l : ℕ) (d : Diagram) → Good K L l d → (w w' : ℕ)
      → ((j : ℕ) → l ≤ j → j < L.size → bit (L.mark j) w ≡ bit (L.mark j) w') → rule K L d w ≡ rule K L d w'
  rule_local l (leaf v) g w w' h = refl
  rule_local l (node m a b) g w w' h =
      rw (h m g.0 g.1)
      (ap₂ (join K (L.type m) (bit (L.mark m) w'))
      (rule_local (suc m) a g.2 w w' (λ j p. h j (omega arith)))
      (rule_local (suc m) b g.3 w w' (λ j p. h j (omega arith))))

  pub marks_apart : (l m : ℕ) → l < m → m < L.size → ¬ (L.mark l ≡ L.mark m)
  marks_apart l m h k e =
      let same_level : l ≡ m = sym (valid.level_mark l (omega arith)) ∙ ap L.level e ∙ valid.level_mark m k in omega arith

  pub rule_put : (l : ℕ) (d : Diagram) → l < L.size → Good K L (suc l) d → (c w : ℕ) → c < 2
      → rule K L d (put (L.mark l) c w) ≡ rule K L d w
  rule_put l d h g c w k =
      rule_local (suc l) d g (put (L.mark l) c w) w (λ j p q. bit_put_other (L.mark l) (L.mark j) c w k (λ e. marks_apart l j p q e))

  -- Where its mark is put to c, a diagram's rule is that of its parts at the mark's level.
  pub rule_at : (l : ℕ) (d : Diagram) → l < L.size → Good K L l d → (c w : ℕ) → c < 2
      → rule K L d (put (L.mark l) c w) ≡ join K (L.type l) c (rule K L (low K L l d) w) (rule K L (high K L l d) w)
  rule_at l d h g c w k =
      rule_parts l d g (put (L.mark l) c w)
      ∙ rw (bit_put (L.mark l) c w k) (ap₂ (join K (L.type l) c) (rule_put l _ h (low_good l d g) c w k) (rule_put l _ h (high_good l d g) c w k))
