-- A handle that stands for a diagram is in use, and stays so while the places in use do. Assumes nothing.
use Rattle.std.proofs.Common.{◌≡◌, ℕ, true, ap}
use Rattle.diagrams.specs.Diagrams.{Diagram, leaf, node}
use Rattle.diagrams.specs.Places.{Content, Stands}
use Rattle.diagrams.proofs.Places
use Rattle.places.specs.Contents.{in_use}
use Rattle.places.proofs.Holding.{used_not_free}

module _ (held : ℕ → Content) where
  pub stands_used : (d : Diagram) (h : ℕ) → Stands held d h → in_use (held h) ≡ true
  stands_used (leaf v) h p = ap in_use p
  stands_used (node l a b) h p = ap in_use p.2

  pub stands_kept : (after : ℕ → Content) → ((g : ℕ) → in_use (held g) ≡ true → after g ≡ held g) → (d : Diagram) (h : ℕ) → Stands held d h → Stands after d h
  stands_kept after k = Places.stands_kept held after (λ g used. k g (used_not_free (held g) used))
