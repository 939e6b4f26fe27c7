-- What lies below a place: the parts of its diagram, what `leads` finds, and what is reached. Assumes nothing.
use Rattle.std.proofs.Common.{◌≡◌, ℕ, zero, suc, ◌+◌, ◌<◌, ◌≤◌, Bool, true, eqb, ◌⊎◌, sym, refl, subst, inl, inr, arith}
use Rattle.std.proofs.lemmas.Bool.{eqb-true, eq-eqb, or_cases, or_left, or_right, false≢true}
use Rattle.diagrams.specs.Kinds.{Kind}
use Rattle.diagrams.specs.Layouts.{Layout}
use Rattle.diagrams.specs.Diagrams.{Diagram, leaf, node, Good}
use Rattle.diagrams.specs.Sizes.{Within, itself, in_low, in_high}
use Rattle.diagrams.specs.Places.{Content, free, leaf_word, node_at, Stands, Unshared, Reached, from_zero, from_one, from_held, to_low, to_high, some_child, leads}
use Rattle.diagrams.proofs.Places.{one_handle}
use Rattle.diagrams.proofs.Measures.{part_part}

-- The children of a handle stand for parts of its diagram.
pub child_stands : (at : ℕ → Content) (d : Diagram) (h l x y : ℕ) → Stands at d h → at h ≡ node_at l x y
    → ((a : Diagram) × Stands at a x × Within a d) × ((b : Diagram) × Stands at b y × Within b d)
child_stands at (leaf v) h l x y p e = absurd (let z : ◌≡◌ {A = ℕ} 0 1 = cc in omega arith)
child_stands at (node k a b) h l x y p e =
    let low : p.0 ≡ x = cc (p.2, e) in
    let high : p.1 ≡ y = cc (p.2, e) in
    ((a, subst (Stands at a) low p.3, in_low (itself refl)), (b, subst (Stands at b) high p.4, in_high (itself refl)))

module _ (at : ℕ → Content) where
  -- A place leads to itself.
  pub leads_self : (n g h : ℕ) → g ≡ h → leads at n h g ≡ true
  unfolding leads
  leads_self zero g h e = eq-eqb g h e
  leads_self (suc n) g h e = or_left (eqb g h) _ (eq-eqb g h e)

  -- Where a child leads to a place, so does its parent by one step more.
  pub leads_low : (n g h l x y : ℕ) → at g ≡ node_at l x y → leads at n h x ≡ true → leads at (suc n) h g ≡ true
  unfolding leads
  leads_low n g h l x y e t = or_right (eqb g h) _ (rw e (or_left (leads at n h x) (leads at n h y) t))

  pub leads_high : (n g h l x y : ℕ) → at g ≡ node_at l x y → leads at n h y ≡ true → leads at (suc n) h g ≡ true
  unfolding leads
  leads_high n g h l x y e t = or_right (eqb g h) _ (rw e (or_right (leads at n h x) (leads at n h y) t))

  -- Levels rise on the way down, so that a place leads to all parts of its good diagram by as many steps as there are levels left.
  pub leads_parts : (K : Kind) (L : Layout) → Unshared at → (x d : Diagram) (g h l n : ℕ) → Good K L l d → Stands at d g
      → Within x d → Stands at x h → L.size ≤ n + l → leads at n h g ≡ true
  leads_parts K L only x d g h l n good p (itself e) q enough = leads_self n g h (one_handle at only x g h (subst (λ y. Stands at y g) (sym e) p) q)
  leads_parts K L only x (node m a b) g h l zero good p (in_low r) q enough = absurd (omega (arith, good.0, good.1))
  leads_parts K L only x (node m a b) g h l zero good p (in_high r) q enough = absurd (omega (arith, good.0, good.1))
  leads_parts K L only x (node m a b) g h l (suc n) good p (in_low r) q enough =
      leads_low n g h m p.0 p.1 p.2 (leads_parts K L only x a p.0 h (suc m) n good.2 p.3 r q (omega (arith, good.0)))
  leads_parts K L only x (node m a b) g h l (suc n) good p (in_high r) q enough =
      leads_high n g h m p.0 p.1 p.2 (leads_parts K L only x b p.1 h (suc m) n good.3 p.4 r q (omega (arith, good.0)))

  module _ (count : ℕ → ℕ) where
    child_reached : (p : ℕ → Bool) (g h : ℕ) (c : Content) → at g ≡ c → Reached at count g
        → ((x : ℕ) → p x ≡ true → Reached at count x → Reached at count h) → some_child p c ≡ true → Reached at count h
    child_reached p g h free e r step t = absurd (false≢true t)
    child_reached p g h (leaf_word v) e r step t = absurd (false≢true t)
    child_reached p g h (node_at l x y) e r step t =
        elim (or_cases (p x) (p y) t) [ inl u ↦ step x u (to_low r e) | inr u ↦ step y u (to_high r e) ]

    -- Where a place is reached, so is each to which it leads.
    pub leads_reached : (n h g : ℕ) → leads at n h g ≡ true → Reached at count g → Reached at count h
    unfolding leads
    leads_reached zero h g t r = subst (Reached at count) (eqb-true g h t) r
    leads_reached (suc n) h g t r =
        elim (or_cases (eqb g h) (some_child (leads at n h) (at g)) t) [
          | inl u ↦ subst (Reached at count) (eqb-true g h u) r
          | inr u ↦ child_reached (leads at n h) g h (at g) refl r (leads_reached n h) u
        ]

    -- The places from which the others are reached: 0, 1 and those that are held.
    abbrev pub Root : ℕ → Type 0
    Root r = (r ≤ 1) ⊎ (0 < count r)

    pub root_reached : (r : ℕ) → Root r → Reached at count r
    root_reached zero (inl l) = from_zero refl
    root_reached (suc zero) (inl l) = from_one refl
    root_reached (suc (suc r)) (inl l) = absurd (omega arith)
    root_reached r (inr l) = from_held l

    -- What is reached stands for a part of the diagram of such a place.
    pub reached_root : (h : ℕ) → Reached at count h
        → (r : ℕ) × Root r × ((d : Diagram) → Stands at d r → (x : Diagram) × Stands at x h × Within x d)
    reached_root h (from_zero e) = (h, inl (omega arith), λ d p. (d, p, itself refl))
    reached_root h (from_one e) = (h, inl (omega arith), λ d p. (d, p, itself refl))
    reached_root h (from_held l) = (h, inr l, λ d p. (d, p, itself refl))
    reached_root h (to_low {g = g} {l = l} {y = y} reach e) =
        let u = reached_root g reach in (
          u.0,
          u.1,
          λ d p. let v = u.2 d p in let w = (child_stands at v.0 g l h y v.1 e).0 in (w.0, w.1, part_part w.2 v.2),
        )
    reached_root h (to_high {g = g} {l = l} {x = x} reach e) =
        let u = reached_root g reach in (
          u.0,
          u.1,
          λ d p. let v = u.2 d p in let w = (child_stands at v.0 g l x h v.1 e).1 in (w.0, w.1, part_part w.2 v.2),
        )
