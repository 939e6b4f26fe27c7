-- Calls are answered from their parts. Assumes nothing.
use Rattle.std.proofs.Common.{◌≡◌, ℕ, suc, ◌<◌, ◌≤◌, T, sym, refl, ◌∙◌, ap₂}
use Rattle.diagrams.specs.Kinds.{Kind}
use Rattle.diagrams.specs.Layouts.{Decomposition, shannon, positive, negative, Layout, bit}
use Rattle.diagrams.specs.Diagrams.{Lawful, Diagram, rule, Good, join, make}
use Rattle.diagrams.specs.Tasks.{Operation, sum, difference, product, Task, combine, act, Fit, meaning, result}
use Rattle.diagrams.specs.Building.{crossed, high_call, low_part, high_part}
use Rattle.diagrams.proofs.Algebra.{above, join_act}
use Rattle.diagrams.proofs.Nodes.{rule_value, rule_make, make_good, low_good, high_good, rule_parts}
use Rattle.diagrams.proofs.Results.{answer_rule, answer_good, is_answer}

module _ {K : Kind} {L : Layout} (ok : Lawful K L) where
  open ok use {laws, valid}

  -- A node is a call's answer if its rule is what the call means.
  pub is_made : (l : ℕ) → l < L.size → (task : Task) → Fit K L l task → (a b : Diagram) → Good K L (suc l) a → Good K L (suc l) b
      → ((w : ℕ) → join K (L.type l) (bit (L.mark l) w) (rule K L a w) (rule K L b w) ≡ meaning K L task w) → make K L l a b ≡ result K L task
  is_made l h task fit a b ga gb e =
      is_answer ok l task fit (make K L l a b) (make_good ok l a b h ga gb) (λ w. rule_make ok l a b w (rule_value ok (suc l) a ga w) ∙ e w)

  module _ (l : ℕ) (h : l ≤ L.size) (la ha lb hb : Diagram) (gla : Good K L l la) (gha : Good K L l ha) (glb : Good K L l lb) (ghb : Good K L l hb) where
    good : (o : Operation) (a b : Diagram) → Good K L l a → Good K L l b → Good K L l (result K L (combine o a b))
    good o a b ga gb = answer_good ok l (combine o a b) (ga, gb) h

    pub high_fit : (t : Decomposition) (o : Operation) → Fit K L l (high_call K L la ha lb hb t o)
    high_fit t sum = (gha, ghb)
    high_fit t difference = (gha, ghb)
    high_fit shannon product = (gha, ghb)
    high_fit positive product = (good sum _ _ (good product la hb gla ghb) (good product ha lb gha glb), good product ha hb gha ghb)
    high_fit negative product = (good sum _ _ (good product la hb gla ghb) (good product ha lb gha glb), good product ha hb gha ghb)

    davio : (w : ℕ) → K.sum (rule K L (result K L (crossed K L la ha lb hb)) w) (rule K L (result K L (combine product ha hb)) w)
        ≡ above K positive product (rule K L la w) (rule K L ha w) (rule K L lb w) (rule K L hb w)
    davio w =
        let rules : (o : Operation) (a b : Diagram) → Good K L l a → Good K L l b → rule K L (result K L (combine o a b)) w ≡ act K o (rule K L a w) (rule K L b w)
        = λ o a b ga gb. answer_rule ok l (combine o a b) (ga, gb) w in
        ap₂ K.sum
        (rules sum _ _ (good product la hb gla ghb) (good product ha lb gha glb) ∙ ap₂ K.sum (rules product la hb gla ghb) (rules product ha lb gha glb))
        (rules product ha hb gha ghb)

    high_meaning : (t : Decomposition) (o : Operation) (w : ℕ)
        → meaning K L (high_call K L la ha lb hb t o) w ≡ above K t o (rule K L la w) (rule K L ha w) (rule K L lb w) (rule K L hb w)
    high_meaning t sum w = refl
    high_meaning t difference w = refl
    high_meaning shannon product w = refl
    high_meaning positive product w = davio w
    high_meaning negative product w = davio w

  pub combined : (l : ℕ) → l < L.size → (o : Operation) (a b : Diagram) → Good K L l a → Good K L l b
      → make K L l (result K L (low_part K L l o a b)) (result K L (high_part K L l o a b)) ≡ result K L (combine o a b)
  combined l h o a b ga gb =
      let t : Decomposition = L.type l in
      let gla = low_good ok l a ga in
      let gha = high_good ok l a ga in
      let glb = low_good ok l b gb in
      let ghb = high_good ok l b gb in
      let fit = high_fit (suc l) h _ _ _ _ gla gha glb ghb t o in
      let value : (d : Diagram) → Good K L (suc l) d → (w : ℕ) → T (K.value (rule K L d w)) = rule_value ok (suc l) in
      is_made l h (combine o a b) (ga, gb) _ _
      (answer_good ok (suc l) (low_part K L l o a b) (gla, glb) h) (answer_good ok (suc l) _ fit h)
      (λ w. ap₂ (join K t (bit (L.mark l) w))
      (answer_rule ok (suc l) (low_part K L l o a b) (gla, glb) w)
      (answer_rule ok (suc l) _ fit w ∙ high_meaning (suc l) h _ _ _ _ gla gha glb ghb t o w)
      ∙ join_act laws t (bit (L.mark l) w) o _ _ _ _ (value _ gla w) (value _ gha w) (value _ glb w) (value _ ghb w)
      ∙ ap₂ (act K o) (sym (rule_parts ok l a ga w)) (sym (rule_parts ok l b gb w)))
