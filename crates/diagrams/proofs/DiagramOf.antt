-- Every rule of values has a diagram. Assumes nothing.
use Rattle.std.proofs.Common.{◌≡◌, ℕ, zero, suc, ◌+◌, ◌<◌, ◌≤◌, T, refl, ap, ◌∙◌, ap₂, arith}
use Rattle.diagrams.specs.Kinds.{Kind, Laws}
use Rattle.diagrams.specs.Layouts.{Decomposition, shannon, positive, negative, Layout, bit, put}
use Rattle.diagrams.specs.Diagrams.{Lawful, join, rule, Good}
use Rattle.diagrams.specs.Tasks.{lower, upper, diagram_of}
use Rattle.diagrams.proofs.Algebra.{restore}
use Rattle.diagrams.proofs.Bits.{put_bit, bit_puts}
use Rattle.diagrams.proofs.Nodes.{rule_make, make_good, rule_value}

-- Every answer a value.
abbrev pub Valued : Kind → (ℕ → ℕ) → Type 0
Valued K f = (fruit : ℕ) → T (K.value (f fruit))

-- Fruits that agree at the marks from level l on down.
abbrev pub Agree : Layout → ℕ → ℕ → ℕ → Type 0
Agree L l w w' = (j : ℕ) → l ≤ j → j < L.size → bit (L.mark j) w ≡ bit (L.mark j) w'

-- A rule that turns on those marks alone.
abbrev pub Local : Layout → ℕ → (ℕ → ℕ) → Type 0
Local L l f = (w w' : ℕ) → Agree L l w w' → f w ≡ f w'

module _ {K : Kind} (laws : Laws K) (i : ℕ) (f : ℕ → ℕ) (valued : Valued K f) where
  lower_value : (t : Decomposition) → Valued K (lower K i f t)
  lower_value shannon w = valued _
  lower_value positive w = valued _
  lower_value negative w = valued _

  upper_value : (t : Decomposition) → Valued K (upper K i f t)
  upper_value shannon w = valued _
  upper_value positive w = laws.arithmetic.difference_value _ _ (valued _) (valued _)
  upper_value negative w = laws.arithmetic.difference_value _ _ (valued _) (valued _)

  join_split : (t : Decomposition) (c w : ℕ) → c < 2 → join K t c (lower K i f t w) (upper K i f t w) ≡ f (put i c w)
  join_split shannon zero w h = refl
  join_split shannon (suc zero) w h = refl
  join_split shannon (suc (suc c)) w h = absurd (omega arith)
  join_split positive zero w h = refl
  join_split positive (suc zero) w h = restore laws _ _ (valued _) (valued _)
  join_split positive (suc (suc c)) w h = absurd (omega arith)
  join_split negative zero w h = restore laws _ _ (valued _) (valued _)
  join_split negative (suc zero) w h = refl
  join_split negative (suc (suc c)) w h = absurd (omega arith)

module _ {K : Kind} {L : Layout} (ok : Lawful K L) where
  open ok use {laws, valid}

  module _ (l : ℕ) (f : ℕ → ℕ) (local : Local L l f) where
    put_local : (c w w' : ℕ) → c < 2 → Agree L (suc l) w w' → f (put (L.mark l) c w) ≡ f (put (L.mark l) c w')
    put_local c w w' k agree = local _ _ (λ j p q. bit_puts (L.mark l) (L.mark j) c w w' k (λ n. agree j (later j p n) q))
      where
        later : (j : ℕ) → l ≤ j → ¬ (L.mark l ≡ L.mark j) → suc l ≤ j
        later j p n = let other : ¬ (l ≡ j) = λ e. n (ap L.mark e) in omega arith

    lower_local : (t : Decomposition) → Local L (suc l) (lower K (L.mark l) f t)
    lower_local shannon w w' a = put_local 0 w w' (omega arith) a
    lower_local positive w w' a = put_local 0 w w' (omega arith) a
    lower_local negative w w' a = put_local 1 w w' (omega arith) a

    upper_local : (t : Decomposition) → Local L (suc l) (upper K (L.mark l) f t)
    upper_local shannon w w' a = put_local 1 w w' (omega arith) a
    upper_local positive w w' a = ap₂ K.difference (put_local 1 w w' (omega arith) a) (put_local 0 w w' (omega arith) a)
    upper_local negative w w' a = ap₂ K.difference (put_local 0 w w' (omega arith) a) (put_local 1 w w' (omega arith) a)

  pub diagram_good : (k l : ℕ) → l + k ≡ L.size → (f : ℕ → ℕ) → Valued K f → Good K L l (diagram_of K L k l f)
  diagram_good zero l h f valued = valued 0
  diagram_good (suc k) l h f valued =
      make_good ok l _ _ (omega arith)
      (diagram_good k (suc l) (omega arith) _ (lower_value laws (L.mark l) f valued (L.type l)))
      (diagram_good k (suc l) (omega arith) _ (upper_value laws (L.mark l) f valued (L.type l)))

  pub diagram_rule : (k l : ℕ) → l + k ≡ L.size → (f : ℕ → ℕ) → Valued K f → Local L l f → (w : ℕ) → rule K L (diagram_of K L k l f) w ≡ f w
  diagram_rule zero l h f valued local w = local 0 w (λ j p q. absurd (omega arith))
  diagram_rule (suc k) l h f valued local w =
      let t : Decomposition = L.type l in
      let i : ℕ = L.mark l in
      let next : suc l + k ≡ L.size = omega arith in
      let lowered = lower_value laws i f valued t in
      rule_make ok l _ _ w (rule_value ok (suc l) _ (diagram_good k (suc l) next _ lowered) w)
      ∙ ap₂ (join K t (bit i w))
      (diagram_rule k (suc l) next _ lowered (lower_local l f local t) w)
      (diagram_rule k (suc l) next _ (upper_value laws i f valued t) (upper_local l f local t) w)
      ∙ join_split laws i f valued t (bit i w) w (omega arith)
      ∙ ap f (put_bit i w)
