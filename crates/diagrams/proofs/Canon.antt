-- Diagrams that grade every fruit alike are one diagram. Assumes nothing.
use Rattle.std.proofs.Common.{◌≡◌, ℕ, zero, suc, ◌+◌, ◌^◌, ◌<◌, sym, ap, ◌∙◌, ap₂, arith}
use Rattle.std.proofs.lemmas.Nat.{pow_pos}
use Rattle.diagrams.specs.Kinds.{Kind}
use Rattle.diagrams.specs.Layouts.{Layout, put}
use Rattle.diagrams.specs.Diagrams.{Lawful, Diagram, leaf, node, join, rule, Good, low, high, make}
use Rattle.diagrams.specs.Theorems.{Canonical}
use Rattle.diagrams.proofs.Bits.{put_below}
use Rattle.diagrams.proofs.Nodes.{make_parts, low_good, high_good, rule_value, join_apart, rule_at}

module _ {K : Kind} {L : Layout} (ok : Lawful K L) where
  open ok use {laws, valid}

  abbrev Alike : Diagram → Diagram → Type 0
  Alike a b = (w : ℕ) → w < 2 ^ L.size → rule K L a w ≡ rule K L b w

  parts_alike : (l : ℕ) (a b : Diagram) → l < L.size → Good K L l a → Good K L l b → Alike a b
      → Alike (low K L l a) (low K L l b) × Alike (high K L l a) (high K L l b)
  parts_alike l a b h ga gb e = (λ w k. (both w k).0, λ w k. (both w k).1)
    where
      at : (w : ℕ) → w < 2 ^ L.size → (c : ℕ) → c < 2
          → join K (L.type l) c (rule K L (low K L l a) w) (rule K L (high K L l a) w)
          ≡ join K (L.type l) c (rule K L (low K L l b) w) (rule K L (high K L l b) w)
      at w k c small =
          sym (rule_at ok l a h ga c w small) ∙ e (put (L.mark l) c w) (put_below L.size (L.mark l) c w small (valid.mark_within l h) k) ∙ rule_at ok l b h gb c w small

      both : (w : ℕ) → w < 2 ^ L.size
          → (rule K L (low K L l a) w ≡ rule K L (low K L l b) w) × (rule K L (high K L l a) w ≡ rule K L (high K L l b) w)
      both w k =
          join_apart ok (L.type l) _ _ _ _ (rule_value ok (suc l) _ (low_good ok l a ga) w) (rule_value ok (suc l) _ (high_good ok l a ga) w)
          (rule_value ok (suc l) _ (high_good ok l b gb) w) (at w k 0 (omega arith)) (at w k 1 (omega arith))

  canon : (k l : ℕ) → l + k ≡ L.size → (a b : Diagram) → Good K L l a → Good K L l b → Alike a b → a ≡ b
  canon zero l h (leaf u) (leaf v) ga gb e = ap leaf (e 0 (pow_pos L.size))
  canon zero l h (leaf u) (node m a b) ga gb e = absurd (omega arith)
  canon zero l h (node m a b) d ga gb e = absurd (omega arith)
  canon (suc k) l h a b ga gb e =
      let q : Alike (low K L l a) (low K L l b) × Alike (high K L l a) (high K L l b) = parts_alike l a b (omega arith) ga gb e in
      sym (make_parts ok l a ga)
      ∙ ap₂ (make K L l) (canon k (suc l) (omega arith) _ _ (low_good ok l a ga) (low_good ok l b gb) q.0)
      (canon k (suc l) (omega arith) _ _ (high_good ok l a ga) (high_good ok l b gb) q.1)
      ∙ make_parts ok l b gb

pub canonical : Canonical
canonical K L ok = canon ok L.size 0 (omega arith)
