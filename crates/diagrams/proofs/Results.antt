-- The answer to a call: good, with the rule that the call means, and the only such diagram. Assumes nothing.
use Rattle.std.proofs.Common.{◌≡◌, ℕ, zero, suc, ◌-◌, ◌≤◌, T, sym, refl, ap, ◌∙◌, ap₂, arith}
use Rattle.diagrams.specs.Kinds.{Kind}
use Rattle.diagrams.specs.Layouts.{Layout, bit, put}
use Rattle.diagrams.specs.Diagrams.{Lawful, Diagram, rule, Good}
use Rattle.diagrams.specs.Tasks.{Task, constant, mark, combine, restrict, act, diagram_of, Fit, meaning, result}
use Rattle.diagrams.specs.Theorems.{Answered, Only}
use Rattle.diagrams.proofs.Algebra.{act_value}
use Rattle.diagrams.proofs.Bits.{bit_puts}
use Rattle.diagrams.proofs.Nodes.{rule_value, rule_local, good_up}
use Rattle.diagrams.proofs.Canon.{canonical}
use Rattle.diagrams.proofs.DiagramOf.{Valued, Local, diagram_good, diagram_rule}

module _ {K : Kind} {L : Layout} (ok : Lawful K L) where
  open ok use {laws, valid}

  pick_value : (c : ℕ) → T (K.value (elim c [ zero ↦ K.zero | suc _ ↦ K.one ]))
  pick_value zero = laws.arithmetic.zero_value
  pick_value (suc c) = laws.arithmetic.one_value

  pub meaning_value : (l : ℕ) (task : Task) → Fit K L l task → Valued K (meaning K L task)
  meaning_value l (constant v) fit w = fit
  meaning_value l (mark i) fit w = pick_value (bit i w)
  meaning_value l (combine o a b) fit w = act_value laws o _ _ (rule_value ok l a fit.0 w) (rule_value ok l b fit.1 w)
  meaning_value l (restrict d i c) fit w = rule_value ok l d fit.0 (put i c w)

  meaning_local : (l : ℕ) (task : Task) → Fit K L l task → Local L l (meaning K L task)
  meaning_local l (constant v) fit w w' e = refl
  meaning_local l (mark i) fit w w' e =
      let here : bit i w ≡ bit i w' = rw (valid.mark_level i fit.1) at (e (L.level i) fit.0 (valid.level_within i fit.1)) in
      ap (λ c. elim c [ zero ↦ K.zero | suc _ ↦ K.one ]) here
  meaning_local l (combine o a b) fit w w' e = ap₂ (act K o) (rule_local ok l a fit.0 w w' e) (rule_local ok l b fit.1 w w' e)
  meaning_local l (restrict d i c) fit w w' e =
      rule_local ok l d fit.0 (put i c w) (put i c w') (λ j p q. bit_puts i (L.mark j) c w w' fit.2 (λ _. e j p q))

  pub fit_up : (l m : ℕ) → l ≤ m → (task : Task) → Fit K L m task → Fit K L l task
  fit_up l m h (constant v) fit = fit
  fit_up l m h (mark i) fit = (omega arith, fit.1)
  fit_up l m h (combine o a b) fit = (good_up ok l m a h fit.0, good_up ok l m b h fit.1)
  fit_up l m h (restrict d i c) fit = (good_up ok l m d h fit.0, fit.1, fit.2)

  module _ (l : ℕ) (task : Task) (fit : Fit K L l task) where
    pub answer_rule : (w : ℕ) → rule K L (result K L task) w ≡ meaning K L task w
    answer_rule =
        let whole = fit_up 0 l (omega arith) task fit in
        diagram_rule ok L.size 0 (omega arith) _ (meaning_value 0 task whole) (meaning_local 0 task whole)

    -- A diagram with the rule that a call means is the call's answer.
    pub is_answer : (d : Diagram) → Good K L l d → ((w : ℕ) → rule K L d w ≡ meaning K L task w) → d ≡ result K L task
    is_answer d g e =
        canonical K L ok d _ (good_up ok 0 l d (omega arith) g)
        (diagram_good ok L.size 0 (omega arith) _ (meaning_value 0 task (fit_up 0 l (omega arith) task fit))) (λ w _. e w ∙ sym (answer_rule w))

    pub answer_good : l ≤ L.size → Good K L l (result K L task)
    answer_good h =
        let d : Diagram = diagram_of K L (L.size - l) l (meaning K L task) in
        let g : Good K L l d = diagram_good ok (L.size - l) l (omega arith) _ (meaning_value l task fit) in
        rw (← (is_answer d g (diagram_rule ok (L.size - l) l (omega arith) _ (meaning_value l task fit) (meaning_local l task fit)))) g

pub answered : Answered
answered K L ok l h task fit = (answer_good ok l task fit h, answer_rule ok l task fit)

pub only : Only
only K L ok task fit d g e =
    canonical K L ok d _ g (answer_good ok 0 task fit (omega arith)) (λ w h. e w h ∙ sym (answer_rule ok 0 task fit w))
