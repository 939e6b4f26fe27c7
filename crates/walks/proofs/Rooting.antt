-- Marking what is reached from the roots, one root after another. Assumes nothing.
use Rattle.std.proofs.Common.{◌≡◌, ℕ, ◌+◌, ◌<◌, true, false, eqb, ltb, ◌⊎◌, List, [], get_or, sym, refl, subst, inl, inr, ⊎_elim, arith}
use mathlib.Core.List.Memᴰ
use Rattle.std.proofs.lemmas.Bool.{cases_eq, or_cases, or_left, or_right, both_ways, eqb-true, ltb-true, lt-ltb}
use Rattle.diagrams.specs.Diagrams.{Diagram, node}
use Rattle.diagrams.specs.Sizes.{among, Within, itself, in_low, in_high}
use Rattle.diagrams.specs.Sheets.{visited}
use Rattle.diagrams.specs.Places.{Stands, from_zero, from_one, from_held, to_low, to_high}
use Rattle.diagrams.proofs.Visits.{Mem, visited_keeps, visited_has}
use Rattle.diagrams.proofs.Measures.{Closed, closed_none, stays_closed, visited_parts}
use Rattle.diagrams.proofs.Places.{stands_for_one, one_handle}
use Rattle.places.specs.declared.places.Places.{Places}
use Rattle.places.specs.Contents.{in_use}
use Rattle.places.specs.Tables.{place, holds, Used}
use Rattle.places.proofs.Extending.{unshared, used_below, node_under, zero_under, one_under}
use Rattle.places.proofs.Drawing.{used_stands}
use Rattle.walks.specs.Walks.{Collected, Walked, root, Kept, KeptMarked}
use Rattle.walks.proofs.Walking.{begin}

-- A place is kept for itself.
abbrev pub Root : Places → ℕ → Type 0
Root t r = root t r ≡ true

-- The roots below i were walked from: `seen` has them and all that is reached from them, and nothing else.
pub record Rooted (t : Places) (i : ℕ) (marks order : List ℕ) : Type 0 where
  pub seen : List Diagram
  pub collected : Collected t marks order seen
  pub closed : Closed seen
  pub roots : (r : ℕ) → r < i → Root t r → (d : Diagram) → Stands (holds t) d r → Mem d seen
  pub kept : (d : Diagram) (h : ℕ) → Mem d seen → Stands (holds t) d h → Kept t h

module _ (t : Places) where
  -- A root is 0, 1, or held.
  root_cases : (r : ℕ) → Root t r → (r ≡ 0) ⊎ ((r ≡ 1) ⊎ (0 < (place t r).count))
  root_cases r root =
      ⊎_elim (λ low. ⊎_elim (λ (e : r ≡ 0). inl e) (λ (n : r ≡ 0 → ⊥). inr (inl (omega (arith, ltb-true r 2 low)))) (cases_eq r 0))
      (λ held. inr (inr (ltb-true 0 (place t r).count held))) (or_cases (ltb r 2) (ltb 0 (place t r).count) root)

  low_root : (r : ℕ) → r < 2 → Root t r
  low_root r low = or_left (ltb r 2) (ltb 0 (place t r).count) (lt-ltb r 2 low)

  held_root : (r : ℕ) → 0 < (place t r).count → Root t r
  held_root r held = or_right (ltb r 2) (ltb 0 (place t r).count) (lt-ltb 0 (place t r).count held)

  held_used : (h : ℕ) → 0 < (place t h).count → Used t h
  held_used h held =
      ⊎_elim (λ used. used) (λ idle. absurd (omega (arith, eqb-true (place t h).count 0 idle)))
      (or_cases (in_use (holds t h)) (eqb (place t h).count 0) (t.idle h))

  root_kept : (r : ℕ) → Root t r → Kept t r
  root_kept r root = elim (root_cases r root) [ inl e ↦ from_zero e | inr (inl e) ↦ from_one e | inr (inr held) ↦ from_held held ]

  -- What is reached is in use.
  pub kept_used : (h : ℕ) → Kept t h → Used t h
  kept_used h (from_zero e) = subst (Used t) (sym e) (zero_under t).used
  kept_used h (from_one e) = subst (Used t) (sym e) (one_under t).used
  kept_used h (from_held p) = held_used h p
  kept_used h (to_low {g = g} {l = l} {y = y} r e) = (node_under t g l h y e).1.used
  kept_used h (to_high {g = g} {l = l} {x = x} r e) = (node_under t g l x h e).2.used

  pub root_used : (r : ℕ) → Root t r → Used t r
  root_used r root = kept_used r (root_kept r root)

  -- The parts of what is kept are kept.
  part_kept : (x d : Diagram) (h g : ℕ) → Within x d → Stands (holds t) d h → Stands (holds t) x g → Kept t h → Kept t g
  part_kept x d h g (itself e) p q k =
      subst (Kept t) (one_handle (holds t) (unshared t) d h g p (subst (λ (y : Diagram). Stands (holds t) y g) e q)) k
  part_kept x (node l a b) h g (in_low w) p q k = part_kept x a p.0 g w p.3 q (to_low k p.2)
  part_kept x (node l a b) h g (in_high w) p q k = part_kept x b p.1 g w p.4 q (to_high k p.2)

  pub rooted_none : (marks : List ℕ) → ((h : ℕ) → h < t.capacity → get_or marks h 0 ≡ 0) → Rooted t 0 marks []
  rooted_none marks clean = record {
    seen = [];
    collected = begin t marks clean;
    closed = closed_none;
    roots = λ r lt. absurd (omega arith);
    kept = λ d h m. absurd (Memᴰ.not-nil m);
  }

  module _ (i : ℕ) (marks order : List ℕ) (p : Rooted t i marks order) where
    -- A place that is no root is passed over.
    pub rooted_skip : root t i ≡ false → Rooted t (i + 1) marks order
    rooted_skip none = record {
      seen = p.seen;
      collected = p.collected;
      closed = p.closed;
      roots = λ r lt here d s.
          ⊎_elim (λ (e : r ≡ i). absurd (both_ways (root t i) none (subst (Root t) e here))) (λ (n : r ≡ i → ⊥). p.roots r (omega arith) here d s) (cases_eq r i);
      kept = p.kept;
    }

    -- From a root all that is reached from it is walked to.
    pub rooted_root : (marks' order' : List ℕ) → Root t i → Walked t i marks order marks' order' → Rooted t (i + 1) marks' order'
    rooted_root marks' order' root w = record {
      seen = visited d p.seen;
      collected = w.visits d p.seen stands p.collected;
      closed = stays_closed d p.seen p.closed;
      roots = λ r lt here e s.
          ⊎_elim
          (λ (q : r ≡ i). Memᴰ.cast (stands_for_one (holds t) e d i (subst (Stands (holds t) e) q s) stands) (visited_has d p.seen))
          (λ (n : r ≡ i → ⊥). visited_keeps d e p.seen (p.roots r (omega arith) here e s)) (cases_eq r i);
      kept = λ e h m s.
          ⊎_elim (λ (old : Mem e p.seen). p.kept e h old s) (λ (new : Within e d). part_kept e d i h new stands s (root_kept i root))
          (visited_parts d e p.seen m);
    }
      where
        drawing : (d : Diagram) × Stands (holds t) d i
        drawing = used_stands t i (root_used i root)

        d : Diagram
        d = drawing.0

        stands : Stands (holds t) d i
        stands = drawing.1

  module _ (marks order : List ℕ) (p : Rooted t t.capacity marks order) where
    root_seen : (r : ℕ) → Root t r → (d : Diagram) → Stands (holds t) d r → Mem d p.seen
    root_seen r root = p.roots r (used_below t r (root_used r root)) root

    kept_seen : (h : ℕ) → Kept t h → (d : Diagram) → Stands (holds t) d h → Mem d p.seen
    kept_seen h (from_zero e) d s = root_seen h (low_root h (omega arith)) d s
    kept_seen h (from_one e) d s = root_seen h (low_root h (omega arith)) d s
    kept_seen h (from_held q) d s = root_seen h (held_root h q) d s
    kept_seen h (to_low {g = g} {l = l} {y = y} r e) d s =
        let high = used_stands t y (node_under t g l h y e).2.used in
        p.closed (node l d high.0) d (kept_seen g r (node l d high.0) (h, y, e, s, high.1)) (in_low (itself refl))
    kept_seen h (to_high {g = g} {l = l} {x = x} r e) d s =
        let low = used_stands t x (node_under t g l x h e).1.used in
        p.closed (node l low.0 d) d (kept_seen g r (node l low.0 d) (x, h, e, low.1, s)) (in_high (itself refl))

    -- When every root was walked from, just what is kept has a mark.
    pub rooted_all : KeptMarked t marks
    rooted_all h used =
        let drawing = used_stands t h used in
        let d : Diagram = drawing.0 in
        let s : Stands (holds t) d h = drawing.1 in (
          λ marked. elim (among d p.seen) [ yes m ↦ p.kept d h m s | no n ↦ absurd (omega (arith, p.collected.unmarked d h s n)) ],
          λ kept. omega (arith, p.collected.marked d h s (kept_seen h kept d s)),
        )
