-- Every place in use stands for a diagram. Assumes nothing.
use Rattle.std.proofs.Common.{◌≡◌, ℕ, zero, suc, ◌+◌, ◌≤◌, true, refl, arith}
use Rattle.std.proofs.lemmas.Bool.{false≢true}
use Rattle.diagrams.specs.Diagrams.{Diagram, leaf, node}
use Rattle.diagrams.specs.Places.{Content, free, leaf_word, node_at, Stands}
use Rattle.places.specs.declared.places.Places.{Places}
use Rattle.places.specs.Contents.{in_use, depth}
use Rattle.places.specs.Tables.{holds, Used}
use Rattle.places.proofs.Extending.{node_under}

module _ (t : Places) where
  -- By the number of levels below a place: the children of a node stand deeper.
  drawn : (n h : ℕ) (c : Content) → holds t h ≡ c → 32 ≤ n + depth c → in_use c ≡ true → (d : Diagram) × Stands (holds t) d h
  drawn n h free e le used = absurd (false≢true used)
  drawn n h (leaf_word v) e le used = (leaf v, e)
  drawn zero h (node_at l x y) e le used = absurd (omega (arith, (node_under t h l x y e).0))
  drawn (suc n) h (node_at l x y) e le used =
      let u = node_under t h l x y e in
      let low = drawn n x (holds t x) refl (omega (arith, u.1.level)) u.1.used in
      let high = drawn n y (holds t y) refl (omega (arith, u.2.level)) u.2.used in
      (node l low.0 high.0, (x, y, e, low.1, high.1))

  pub used_stands : (h : ℕ) → Used t h → (d : Diagram) × Stands (holds t) d h
  used_stands h used = drawn 32 h (holds t h) refl (omega arith) used
