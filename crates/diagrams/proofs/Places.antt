-- A handle stands for one diagram, a diagram has one handle, and what keeps the places in use keeps both. Assumes nothing.
use Rattle.std.proofs.Common.{◌≡◌, ℕ, sym, ap, ◌∙◌, subst, ap₂, inl, inr, arith}
use Rattle.diagrams.specs.Diagrams.{Diagram, leaf, node}
use Rattle.diagrams.specs.Places.{Content, free, leaf_word, node_at, Stands, Unshared}

-- A place that holds a leaf or a node is in use.
pub leaf_used : (c : Content) (v : ℕ) → c ≡ leaf_word v → ¬ (c ≡ free)
leaf_used c v e f = let z : ◌≡◌ {A = ℕ} 0 1 = cc in omega arith

node_used : (c : Content) (l x y : ℕ) → c ≡ node_at l x y → ¬ (c ≡ free)
node_used c l x y e f = let z : ◌≡◌ {A = ℕ} 0 1 = cc in omega arith

module _ (at : ℕ → Content) where
  -- Two diagrams of one handle are equal.
  pub stands_for_one : (a b : Diagram) (h : ℕ) → Stands at a h → Stands at b h → a ≡ b
  stands_for_one (leaf u) (leaf v) h p q = let e : u ≡ v = cc in ap leaf e
  stands_for_one (leaf u) (node l a b) h p q = let e = q.2 in cc
  stands_for_one (node l a b) (leaf v) h p q = let e = p.2 in cc
  stands_for_one (node l a b) (node m c d) h p q =
      let e : node_at l p.0 p.1 ≡ node_at m q.0 q.1 = sym p.2 ∙ q.2 in
      let level : l ≡ m = cc in
      let low : p.0 ≡ q.0 = cc in
      let high : p.1 ≡ q.1 = cc in
      let first : a ≡ c = stands_for_one a c q.0 (subst (Stands at a) low p.3) q.3 in
      let second : b ≡ d = stands_for_one b d q.1 (subst (Stands at b) high p.4) q.4 in
      cc (level, first, second)

  -- A handle that stands for a diagram is in use.
  pub stands_used : (d : Diagram) (h : ℕ) → Stands at d h → ¬ (at h ≡ free)
  stands_used (leaf v) h p = leaf_used (at h) v p
  stands_used (node l a b) h p = node_used (at h) l p.0 p.1 p.2

  -- Two handles of one diagram are equal.
  pub one_handle : Unshared at → (d : Diagram) (g h : ℕ) → Stands at d g → Stands at d h → g ≡ h
  one_handle only (leaf v) g h p q = elim (only g h (p ∙ sym q)) [ inl e ↦ absurd (stands_used (leaf v) g p e) | inr e ↦ e ]
  one_handle only (node l a b) g h p q =
      let low : p.0 ≡ q.0 = one_handle only a p.0 q.0 p.3 q.3 in
      let high : p.1 ≡ q.1 = one_handle only b p.1 q.1 p.4 q.4 in
      elim (only g h (p.2 ∙ ap₂ (node_at l) low high ∙ sym q.2)) [ inl e ↦ absurd (stands_used (node l a b) g p e) | inr e ↦ e ]

-- Where every place in use keeps what it holds, a handle stands for what it stood for.
pub stands_kept : (at at' : ℕ → Content) → ((h : ℕ) → ¬ (at h ≡ free) → at' h ≡ at h) → (d : Diagram) (h : ℕ) → Stands at d h → Stands at' d h
stands_kept at at' keeps (leaf v) h p = keeps h (stands_used at (leaf v) h p) ∙ p
stands_kept at at' keeps (node l a b) h p = (
  p.0,
  p.1,
  keeps h (stands_used at (node l a b) h p) ∙ p.2,
  stands_kept at at' keeps a p.0 p.3,
  stands_kept at at' keeps b p.1 p.4,
)
