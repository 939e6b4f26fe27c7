-- Faults of reading have numbers below that of a full table. Assumes nothing.
use Rattle.std.proofs.Common.{◌≡◌, ℕ, ◌<◌, Bool, true, false, cond, eqb, List, [], ◌∷◌, length, get_or, arith}
use Rattle.std.specs.List.{AllByRecursion}
use Rattle.diagrams.specs.Kinds.{Kind}
use Rattle.diagrams.specs.Layouts.{Layout}
use Rattle.diagrams.specs.Diagrams.{Diagram}
use Rattle.diagrams.specs.Reading.{Found, bad, part, fine, unless, two_at, four_at, kind_of, frame_rules, leaf_rules, node_rules, end_rules, found, head_rules, Faulty, head_fault, record_fault, extra_fault, number_fault}

-- What a record comes to, if it is a fault, has such a number.
abbrev Low : Found → Type 0
Low f = (k : ℕ) → f ≡ bad k → k < 25

by_cond : (b : Bool) (x y : Found) → Low x → Low y → Low (cond b x y)
by_cond true x y p q = p
by_cond false x y p q = q

unless_low : (rules : List (ℕ × Bool)) (next : Found) → AllByRecursion (λ c. c.0 < 25) rules → Low next → Low (unless bad rules next)
unless_low [] next all low = low
unless_low (c ∷ cs) next all low =
    by_cond c.1 (bad c.0) (unless bad cs next) (λ k e. let same : c.0 ≡ k = cc in omega (arith, all.0)) (unless_low cs next all.1 low)

part_low : (d : Diagram) → Low (part d)
part_low d k e = let z : ◌≡◌ {A = ℕ} 0 1 = cc in absurd (omega arith)

fine_low : Low fine
fine_low k e = let z : ◌≡◌ {A = ℕ} 0 1 = cc in absurd (omega arith)

module _ (K : Kind) (L : Layout) (limit : ℕ) where
  found_low : (seen : List Diagram) (bytes : List ℕ) → Low (found K L limit seen bytes)
  found_low seen bytes =
      unless_low (frame_rules (length seen) bytes) _ (omega arith, (omega arith, (omega arith, tt)))
      (by_cond (eqb (kind_of bytes) 2) _ _
      (unless_low (leaf_rules K L limit seen (four_at 4 bytes)) _ (omega arith, (omega arith, (omega arith, tt))) (part_low _))
      (by_cond (eqb (kind_of bytes) 3) _ _
      (unless_low (node_rules K L limit seen (get_or bytes 4 0) (two_at 5 bytes) (two_at 7 bytes)) _ (omega arith, (omega arith, (omega arith, (omega arith, tt)))) (part_low _))
      (unless_low (end_rules K L limit seen (two_at 4 bytes)) _ (omega arith, tt) fine_low)))

  pub fault_number_low : (bytes : List ℕ) (k p : ℕ) → Faulty K L limit bytes k p → k < 25
  fault_number_low bytes k p (head_fault e) =
      unless_low (head_rules K L limit bytes) fine (omega arith, (omega arith, (omega arith, (omega arith, tt)))) fine_low k e
  fault_number_low bytes k p (record_fault seen rest _ _ e) = found_low seen rest k e
  fault_number_low bytes k p (extra_fault seen rest _ _ _ _) = omega arith
  fault_number_low bytes k p (number_fault seen n _ _ _ _) = omega arith
