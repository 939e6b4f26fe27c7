-- A smaller call stands deeper. Assumes nothing.
use mathlib.Core.Option.{Option, none, some}
use Rattle.std.proofs.Common.{ℕ, zero, suc, ◌<◌, ◌≤◌, min, List, ◌∷◌, arith}
use Prim.Native.Nat.{Ordering}
use Prim.Native.Nat.{compare}
use Rattle.std.specs.List.{AllByRecursion}
use Rattle.std.proofs.ByRecursion.{All-weaker}
use Rattle.diagrams.specs.Kinds.{Kind}
use Rattle.diagrams.specs.Layouts.{Decomposition, shannon, positive, negative, Layout}
use Rattle.diagrams.specs.Diagrams.{Lawful, Diagram, leaf, node, Good, top, low, high}
use Rattle.diagrams.specs.Tasks.{Operation, sum, difference, product, Task, constant, mark, combine, restrict, Fit, result}
use Rattle.diagrams.specs.Building.{smaller_of, quick, low_part, high_part, on_the_way, choosing, smaller}
use Rattle.diagrams.specs.Theorems.{Deeper}
use Rattle.diagrams.proofs.Nodes.{good_up, low_good, high_good}
use Rattle.diagrams.proofs.Results.{answer_good, fit_up}
use Rattle.diagrams.proofs.Composing.{way_to_combine, way_to_restrict, mark_value, Right, right, top_good}
use Rattle.diagrams.proofs.Split.{high_fit}

module _ {K : Kind} {L : Layout} (ok : Lawful K L) where
  open ok use {laws, valid}

  top_below : (l : ℕ) (d : Diagram) → l ≤ L.size → Good K L l d → (l ≤ top L d) × (top L d ≤ L.size)
  top_below l (leaf v) h g = omega arith
  top_below l (node m a b) h g = omega arith

  module _ (l : ℕ) (h : l ≤ L.size) (la ha lb hb : Diagram) (gla : Good K L l la) (gha : Good K L l ha) (glb : Good K L l lb) (ghb : Good K L l hb) where
    davio_fit : AllByRecursion (Fit K L l) (on_the_way K L la ha lb hb positive product)
    davio_fit =
        let good : (a b : Diagram) → Good K L l a → Good K L l b → Good K L l (result K L (combine product a b))
        = λ a b ga gb. answer_good ok l (combine product a b) (ga, gb) h in
        ((gla, ghb), ((gha, glb), ((good la hb gla ghb, good ha lb gha glb), ((gha, ghb), tt))))

    way_fit : (t : Decomposition) (o : Operation) → AllByRecursion (Fit K L l) (on_the_way K L la ha lb hb t o)
    way_fit t sum = tt
    way_fit t difference = tt
    way_fit shannon product = tt
    way_fit positive product = davio_fit
    way_fit negative product = davio_fit

  -- The calls into which a combination splits at level l, and those on the way to them.
  abbrev pieces : ℕ → Operation → Diagram → Diagram → List Task
  pieces l o a b = low_part K L l o a b ∷ high_part K L l o a b ∷ on_the_way K L (low K L l a) (high K L l a) (low K L l b) (high K L l b) (L.type l) o

  pieces_fit : (l : ℕ) → l < L.size → (o : Operation) (a b : Diagram) → Good K L l a → Good K L l b → AllByRecursion (Fit K L (suc l)) (pieces l o a b)
  pieces_fit l h o a b ga gb =
      let gla = low_good ok l a ga in
      let gha = high_good ok l a ga in
      let glb = low_good ok l b gb in
      let ghb = high_good ok l b gb in (
        (gla, glb),
        (
          high_fit ok (suc l) h _ _ _ _ gla gha glb ghb (L.type l) o,
          way_fit (suc l) h _ _ _ _ gla gha glb ghb (L.type l) o,
        ),
      )

  choosing_fit : (l : ℕ) → l < L.size → (a b : Diagram) → Good K L (suc l) a → Good K L (suc l) b → (t : Decomposition) (c : ℕ)
      → AllByRecursion (λ part. (l < L.size) × Fit K L (suc l) part) (choosing K L t c a b)
  choosing_fit l h a b ga gb shannon c = tt
  choosing_fit l h a b ga gb positive zero = tt
  choosing_fit l h a b ga gb positive (suc c) = ((h, (ga, gb)), tt)
  choosing_fit l h a b ga gb negative zero = ((h, (ga, gb)), tt)
  choosing_fit l h a b ga gb negative (suc c) = tt

  deeper : (l : ℕ) → l ≤ L.size → (task : Task) → Fit K L l task → AllByRecursion (λ part. (l < L.size) × Fit K L (suc l) part) (smaller K L task)
  deeper l h (constant v) fit = tt
  deeper l h (mark i) fit =
      let below : l < L.size = omega (arith, valid.level_within i fit.1) in
      let values = mark_value ok (L.type (L.level i)) in
      ((below, values.0), ((below, values.1), tt))
  deeper l h (combine o a b) fit = go (quick K o a b) (right ok o a b ga gb)
    where
      ga : Good K L 0 a
      ga = good_up ok 0 l a (omega arith) fit.0

      gb : Good K L 0 b
      gb = good_up ok 0 l b (omega arith) fit.1

      m : ℕ
      m = min (top L a) (top L b)

      go : (q : Option Diagram) → Right ok o a b q
          → AllByRecursion (λ part. (l < L.size) × Fit K L (suc l) part) (smaller_of (way_to_combine K L o a b q))
      go (some d) r = tt
      go none r =
          let in-a = top_below l a h fit.0 in
          let in_b = top_below l b h fit.1 in
          All-weaker (Fit K L (suc m)) _ (λ part fits. (omega arith, fit_up ok (suc l) (suc m) (omega arith) part fits)) (pieces m o a b)
          (pieces_fit m r o a b (good_up ok m _ a (omega arith) (top_good ok a ga)) (good_up ok m _ b (omega arith) (top_good ok b gb)))
  deeper l h (restrict (leaf v) i c) fit = tt
  deeper l h (restrict (node m a b) i c) fit =
      let below : l < L.size = omega arith in
      let ga : Good K L (suc l) a = good_up ok (suc l) (suc m) a (omega arith) fit.0.2 in
      let gb : Good K L (suc l) b = good_up ok (suc l) (suc m) b (omega arith) fit.0.3 in
      let P : List Task → Type 0 = AllByRecursion (λ part. (l < L.size) × Fit K L (suc l) part) in
      elim (compare m (L.level i))
      as (λ s. P (smaller_of (way_to_restrict K L m a b i c s))) [
        | Ordering.lt ↦ ((below, (ga, fit.1, fit.2)), ((below, (gb, fit.1, fit.2)), tt))
        | Ordering.eq ↦ choosing_fit l below a b ga gb (L.type m) c
        | Ordering.gt ↦ tt
      ]

pub deepens : Deeper
deepens K L ok = deeper ok
