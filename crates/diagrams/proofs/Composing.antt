-- How answers are built. Assumes nothing.
use mathlib.Core.Option.{Option, none, some}
use Rattle.std.proofs.Common.{◌≡◌, ℕ, zero, suc, ◌<◌, ◌≤◌, min, T, [], sym, refl, ap, ◌∙◌, ap₂, arith}
use Prim.Native.Nat.{compare, Ordering}
use Rattle.diagrams.specs.Kinds.{Kind}
use Rattle.diagrams.specs.Layouts.{Decomposition, shannon, positive, negative, Layout, bit, put}
use Rattle.diagrams.specs.Diagrams.{Lawful, Diagram, leaf, node, same, rule, Good, join, spare, top, low, high, make}
use Rattle.diagrams.specs.Tasks.{Operation, sum, difference, product, constant, mark, combine, restrict, act, Fit, result}
use Rattle.diagrams.specs.Building.{mark_low, mark_high, where_same, leaves, quick, Split, short, long, composed_of, on_the_way, chosen, choosing, composed, low_part, high_part}
use Rattle.diagrams.specs.Theorems.{Composes}
use Rattle.diagrams.proofs.Bits.{bit_put_other}
use Rattle.diagrams.proofs.Algebra.{act_value, restore}
use Rattle.diagrams.proofs.Nodes.{rule_value, make_kept, low_here, high_here, rule_put, rule_at, good_up}
use Rattle.diagrams.proofs.Results.{answer_rule, answer_good, is_answer}
use Rattle.diagrams.proofs.Split.{is_made, combined}

module _ (K : Kind) (L : Layout) where
  -- The way to answer a combination, by its shortcut if it has one.
  abbrev pub way_to_combine : Operation → Diagram → Diagram → Option Diagram → Split
  way_to_combine o a b q =
      let l = min (top L a) (top L b) in
      elim q [
        | some d ↦ short d []
        | none ↦ long l (low_part K L l o a b) (high_part K L l o a b) (on_the_way K L (low K L l a) (high K L l a) (low K L l b) (high K L l b) (L.type l) o)
      ]

  -- The way to answer a restriction of a node, by how its level and the mark's compare.
  abbrev pub way_to_restrict : ℕ → Diagram → Diagram → ℕ → ℕ → Ordering → Split
  way_to_restrict l a b i c s =
      elim s [
        | Ordering.lt ↦ long l (restrict a i c) (restrict b i c) []
        | Ordering.eq ↦ short (chosen K L (L.type l) c a b) (choosing K L (L.type l) c a b)
        | Ordering.gt ↦ short (node l a b) []
      ]

module _ {K : Kind} {L : Layout} (ok : Lawful K L) where
  open ok use {laws, valid}

  value : (a : Diagram) → Good K L 0 a → (w : ℕ) → T (K.value (rule K L a w))
  value = rule_value ok 0

  pub zero_sum : (u : ℕ) → T (K.value u) → K.sum K.zero u ≡ u
  zero_sum u p = laws.arithmetic.sum_comm _ _ laws.arithmetic.zero_value p ∙ laws.arithmetic.sum_zero u p

  difference_zero : (u : ℕ) → T (K.value u) → K.difference u K.zero ≡ u
  difference_zero u p = ap (λ x. K.difference x K.zero) (sym (laws.arithmetic.sum_zero u p)) ∙ laws.arithmetic.sum_difference u K.zero p laws.arithmetic.zero_value

  difference_self : (u : ℕ) → T (K.value u) → K.difference u u ≡ K.zero
  difference_self u p = ap (λ x. K.difference x u) (sym (zero_sum u p)) ∙ laws.arithmetic.sum_difference K.zero u laws.arithmetic.zero_value p

  pub mark_value : (t : Decomposition) → T (K.value (mark_low K t)) × T (K.value (mark_high K t))
  mark_value shannon = (laws.arithmetic.zero_value, laws.arithmetic.one_value)
  mark_value positive = (laws.arithmetic.zero_value, laws.arithmetic.one_value)
  mark_value negative = (laws.arithmetic.one_value, laws.arithmetic.difference_value _ _ laws.arithmetic.zero_value laws.arithmetic.one_value)

  mark_join : (t : Decomposition) (c : ℕ) → join K t c (mark_low K t) (mark_high K t) ≡ elim c [ zero ↦ K.zero | suc _ ↦ K.one ]
  mark_join shannon zero = refl
  mark_join shannon (suc c) = refl
  mark_join positive zero = refl
  mark_join positive (suc c) = zero_sum K.one laws.arithmetic.one_value
  mark_join negative zero = restore laws _ _ laws.arithmetic.one_value laws.arithmetic.zero_value
  mark_join negative (suc c) = refl

  mark_kept : (t : Decomposition) → ¬ (leaf (mark_high K t) ≡ spare K t (leaf (mark_low K t)))
  mark_kept shannon e = laws.arithmetic.apart (sym (ap (λ d. rule K L d 0) e))
  mark_kept positive e = laws.arithmetic.apart (sym (ap (λ d. rule K L d 0) e))
  mark_kept negative e =
      laws.arithmetic.apart (sym (restore laws _ _ laws.arithmetic.one_value laws.arithmetic.zero_value) ∙ ap (λ d. K.sum K.one (rule K L d 0)) e ∙ laws.arithmetic.sum_zero _ laws.arithmetic.one_value)

  marks : (i : ℕ) → i < L.size → node (L.level i) (leaf (mark_low K (L.type (L.level i)))) (leaf (mark_high K (L.type (L.level i)))) ≡ result K L (mark i)
  marks i h =
      let l : ℕ = L.level i in
      let t : Decomposition = L.type l in
      sym (make_kept ok l _ _ (mark_kept t))
      ∙ is_made ok l (valid.level_within i h) (mark i) (omega arith, h) _ _ (mark_value t).0 (mark_value t).1
      (λ w. rw (valid.mark_level i h) (mark_join t (bit i w)))

  restricted : (l : ℕ) (a b : Diagram) (i c : ℕ) → l < L.level i → i < L.size → c < 2 → Good K L l (node l a b)
      → make K L l (result K L (restrict a i c)) (result K L (restrict b i c)) ≡ result K L (restrict (node l a b) i c)
  restricted l a b i c h hi hc g =
      is_made ok l g.1 (restrict (node l a b) i c) (g, hi, hc) _ _
      (answer_good ok (suc l) (restrict a i c) (g.2, hi, hc) g.1)
      (answer_good ok (suc l) (restrict b i c) (g.3, hi, hc) g.1)
      (λ w. ap₂ (join K (L.type l) (bit (L.mark l) w))
      (answer_rule ok (suc l) (restrict a i c) (g.2, hi, hc) w)
      (answer_rule ok (suc l) (restrict b i c) (g.3, hi, hc) w)
      ∙ rw (bit_put_other i (L.mark l) c w hc apart) refl)
    where
      apart : ¬ (i ≡ L.mark l)
      apart e = let same_level : L.level i ≡ l = ap L.level e ∙ valid.level_mark l g.1 in omega arith

  module _ (l : ℕ) (h : l ≤ L.size) (a b : Diagram) (ga : Good K L l a) (gb : Good K L l b) where
    chosen_good : (t : Decomposition) (c : ℕ) → Good K L l (chosen K L t c a b)
    chosen_good shannon zero = ga
    chosen_good shannon (suc c) = gb
    chosen_good positive zero = ga
    chosen_good positive (suc c) = answer_good ok l (combine sum a b) (ga, gb) h
    chosen_good negative zero = answer_good ok l (combine sum a b) (ga, gb) h
    chosen_good negative (suc c) = ga

    chosen_rule : (t : Decomposition) (c w : ℕ) → rule K L (chosen K L t c a b) w ≡ join K t c (rule K L a w) (rule K L b w)
    chosen_rule shannon zero w = refl
    chosen_rule shannon (suc c) w = refl
    chosen_rule positive zero w = refl
    chosen_rule positive (suc c) w = answer_rule ok l (combine sum a b) (ga, gb) w
    chosen_rule negative zero w = answer_rule ok l (combine sum a b) (ga, gb) w
    chosen_rule negative (suc c) w = refl

  restricted_here : (l : ℕ) (a b : Diagram) (i c : ℕ) → l ≡ L.level i → i < L.size → c < 2 → Good K L l (node l a b)
      → chosen K L (L.type l) c a b ≡ result K L (restrict (node l a b) i c)
  restricted_here l a b i c e hi hc g =
      let here : L.mark l ≡ i = ap L.mark e ∙ valid.mark_level i hi in
      is_answer ok l (restrict (node l a b) i c) (g, hi, hc) _
      (good_up ok l (suc l) _ (omega arith) (chosen_good (suc l) g.1 a b g.2 g.3 (L.type l) c))
      (λ w. chosen_rule (suc l) g.1 a b g.2 g.3 (L.type l) c w
      ∙ sym (ap (λ j. rule K L (node l a b) (put j c w)) (sym here)
      ∙ rule_at ok l (node l a b) g.1 g c w hc
      ∙ ap₂ (λ x y. join K (L.type l) c (rule K L x w) (rule K L y w)) (low_here ok l a b) (high_here ok l a b)))

  restricted_deeper : (d : Diagram) (i c : ℕ) → i < L.size → c < 2 → Good K L (suc (L.level i)) d → d ≡ result K L (restrict d i c)
  restricted_deeper d i c hi hc g =
      is_answer ok (suc (L.level i)) (restrict d i c) (g, hi, hc) d g
      (λ w. sym (rw (valid.mark_level i hi) at (rule_put ok (L.level i) d (valid.level_within i hi) g c w hc)))

  -- What a combination's shortcut comes to; where there is none, an operand stands on a level.
  abbrev pub Right : Operation → Diagram → Diagram → Option Diagram → Type 0
  Right o a b (some d) = d ≡ result K L (combine o a b)
  Right o a b none = min (top L a) (top L b) < L.size

  module _ (a b : Diagram) (ga : Good K L 0 a) (gb : Good K L 0 b) where
    right_where : (o : Operation) (x y d : Diagram) (rest : Option Diagram) → Good K L 0 d
        → (x ≡ y → (w : ℕ) → rule K L d w ≡ act K o (rule K L a w) (rule K L b w)) → Right o a b rest → Right o a b (where_same x y d rest)
    right_where o x y d rest gd e r =
        elim (same x y) as (λ s. Right o a b (elim s [ yes _ ↦ some d | no _ ↦ rest ]))
        [ yes p ↦ is_answer ok 0 (combine o a b) (ga, gb) d gd (e p) | no _ ↦ r ]

  right_leaves : (o : Operation) (a b : Diagram) → Good K L 0 a → Good K L 0 b → Right o a b (leaves K o a b)
  right_leaves o (leaf u) (leaf v) ga gb = is_answer ok 0 (combine o (leaf u) (leaf v)) (ga, gb) _ (act_value laws o u v ga gb) (λ w. refl)
  right_leaves o (leaf u) (node l a b) ga gb = omega arith
  right_leaves o (node l a b) (leaf v) ga gb = omega arith
  right_leaves o (node l a b) (node m c d) ga gb = omega arith

  pub right : (o : Operation) (a b : Diagram) → Good K L 0 a → Good K L 0 b → Right o a b (quick K o a b)
  right sum a b ga gb =
      right_where a b ga gb sum a _ b _ gb (λ e w. rw e (sym (zero_sum _ (value b gb w))))
      (right_where a b ga gb sum b _ a _ ga (λ e w. rw e (sym (laws.arithmetic.sum_zero _ (value a ga w))))
      (right_leaves sum a b ga gb))
  right difference a b ga gb =
      right_where a b ga gb difference b _ a _ ga (λ e w. rw e (sym (difference_zero _ (value a ga w))))
      (right_where a b ga gb difference a b _ _ laws.arithmetic.zero_value (λ e w. rw e (sym (difference_self _ (value b gb w))))
      (right_leaves difference a b ga gb))
  right product a b ga gb =
      right_where a b ga gb product a _ _ _ laws.arithmetic.zero_value (λ e w. rw e (sym (laws.arithmetic.zero_product _ (value b gb w))))
      (right_where a b ga gb product b _ _ _ laws.arithmetic.zero_value (λ e w. rw e (sym (laws.arithmetic.product_zero _ (value a ga w))))
      (right_where a b ga gb product a _ b _ gb (λ e w. rw e (sym (laws.arithmetic.one_product _ (value b gb w))))
      (right_where a b ga gb product b _ a _ ga (λ e w. rw e (sym (laws.arithmetic.product_one _ (value a ga w))))
      (right_leaves product a b ga gb))))

  pub top_good : (d : Diagram) → Good K L 0 d → Good K L (top L d) d
  top_good (leaf v) g = g
  top_good (node m a b) g = (omega arith, g.1, g.2, g.3, g.4)

  combines : (o : Operation) (a b : Diagram) → Good K L 0 a → Good K L 0 b → composed K L (combine o a b) ≡ result K L (combine o a b)
  combines o a b ga gb = go (quick K o a b) (right o a b ga gb)
    where
      m : ℕ
      m = min (top L a) (top L b)

      go : (q : Option Diagram) → Right o a b q → composed_of K L (way_to_combine K L o a b q) ≡ result K L (combine o a b)
      go (some d) r = r
      go none r =
          combined ok m r o a b (good_up ok m _ a (omega arith) (top_good a ga)) (good_up ok m _ b (omega arith) (top_good b gb))

  restricts : (l : ℕ) (a b : Diagram) (i c : ℕ) → Fit K L 0 (restrict (node l a b) i c)
      → composed K L (restrict (node l a b) i c) ≡ result K L (restrict (node l a b) i c)
  restricts l a b i c fit = go (compare l (L.level i)) refl
    where
      g : Good K L l (node l a b)
      g = top_good (node l a b) fit.0

      go : (s : Ordering) → compare l (L.level i) ≡ s
          → composed_of K L (way_to_restrict K L l a b i c s) ≡ result K L (restrict (node l a b) i c)
      go Ordering.lt e = restricted l a b i c (grind arith) fit.1 fit.2 g
      go Ordering.eq e = restricted_here l a b i c (grind arith) fit.1 fit.2 g
      go Ordering.gt e =
          let deeper : L.level i < l = grind arith in
          restricted_deeper (node l a b) i c fit.1 fit.2 (omega arith, g.1, g.2, g.3, g.4)

pub builds : Composes
builds K L ok (constant v) fit = is_answer ok 0 (constant v) fit (leaf v) fit (λ w. refl)
builds K L ok (mark i) fit = marks ok i fit.1
builds K L ok (combine o a b) fit = combines ok o a b fit.0 fit.1
builds K L ok (restrict (leaf v) i c) fit = restricted_deeper ok (leaf v) i c fit.1 fit.2 fit.0
builds K L ok (restrict (node l a b) i c) fit = restricts ok l a b i c fit
