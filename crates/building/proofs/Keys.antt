-- A key is the key of one call. Assumes nothing.
use Rattle.std.proofs.Common.{◌≡◌, ℕ, ◌+◌, ◌*◌, ◌<◌, sym, refl, ap, ◌∙◌, subst, arith}
use Rattle.diagrams.specs.Kinds.{Kind}
use Rattle.diagrams.specs.Layouts.{Layout}
use Rattle.diagrams.specs.Diagrams.{Diagram}
use Rattle.diagrams.specs.Tasks.{Operation, sum, difference, product, Task, constant, mark, combine, restrict, Fit}
use Rattle.diagrams.proofs.Places.{stands_for_one}
use Rattle.histories.specs.Stores.{Key}
use Rattle.histories.specs.Tables.{Model, content, StandsFor}
use Rattle.histories.specs.Steps.{operation_code, Keyed}

same_code : (o p : Operation) → operation_code o ≡ operation_code p → o ≡ p
same_code sum sum e = refl
same_code sum difference e = absurd (omega arith)
same_code sum product e = absurd (omega arith)
same_code difference sum e = absurd (omega arith)
same_code difference difference e = refl
same_code difference product e = absurd (omega arith)
same_code product sum e = absurd (omega arith)
same_code product difference e = absurd (omega arith)
same_code product product e = refl

code_small : (o : Operation) → operation_code o < 3
code_small sum = omega arith
code_small difference = omega arith
code_small product = omega arith

one_diagram : (m : Model) (d e : Diagram) (x y : ℕ) → x ≡ y → StandsFor m d x → StandsFor m e y → d ≡ e
one_diagram m d e x y q p r = stands_for_one (content m) d e y (subst (StandsFor m d) q p) r

module _ (K : Kind) (L : Layout) (m : Model) where
  pub keyed_one : (s t : Task) (k : Key) → Fit K L 0 s → Fit K L 0 t → Keyed m s k → Keyed m t k → s ≡ t
  keyed_one (constant v) t k f g p q = absurd p
  keyed_one (mark i) t k f g p q = absurd p
  keyed_one (combine o a b) (constant v) k f g p q = absurd q
  keyed_one (combine o a b) (mark i) k f g p q = absurd q
  keyed_one (combine o a b) (combine o' a' b') k f g p q =
      let e = sym p.4 ∙ q.4 in
      let e1 : o ≡ o' = same_code o o' (ap (λ (j : Key). j.operation) e) in
      let e2 : a ≡ a' = one_diagram m a a' p.0 q.0 (ap (λ (j : Key). j.left) e) p.2 q.2 in
      let e3 : b ≡ b' = one_diagram m b b' p.1 q.1 (ap (λ (j : Key). j.right) e) p.3 q.3 in
      cc (e1, e2, e3)
  keyed_one (combine o a b) (restrict d i c) k f g p q =
      absurd (omega (arith, code_small o, ap (λ (j : Key). j.operation) (sym p.4 ∙ q.2)))
  keyed_one (restrict d i c) (constant v) k f g p q = absurd q
  keyed_one (restrict d i c) (mark j) k f g p q = absurd q
  keyed_one (restrict d i c) (combine o a b) k f g p q =
      absurd (omega (arith, code_small o, ap (λ (j : Key). j.operation) (sym p.2 ∙ q.4)))
  keyed_one (restrict d i c) (restrict d' i' c') k f g p q =
      let e = sym p.2 ∙ q.2 in
      let right : 2 * i + c ≡ 2 * i' + c' = ap (λ (j : Key). j.right) e in
      let e1 : d ≡ d' = one_diagram m d d' p.0 q.0 (ap (λ (j : Key). j.left) e) p.1 q.1 in
      let e2 : i ≡ i' = omega (arith, right, f.2, g.2) in
      let e3 : c ≡ c' = omega (arith, right, f.2, g.2) in
      cc (e1, e2, e3)
