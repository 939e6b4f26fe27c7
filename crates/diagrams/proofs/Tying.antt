-- No smaller call is left out: what a smaller call is given is at hand. Assumes nothing.
use Rattle.std.proofs.Common.{◌≡◌, ℕ, zero, suc, min, ◌⊎◌, List, [], ◌∷◌, sym, refl, ap, subst, inl, inr, arith}
use mathlib.Core.List.{Memᴰ}
use mathlib.Core.Option.{Option, none, some}
use Prim.Native.Nat.{compare, Ordering}
use native.Mathlib.Decide.{ℕ_discrete}
use Rattle.std.specs.List.{AllByRecursion}
use Rattle.diagrams.specs.Kinds.{Kind}
use Rattle.diagrams.specs.Layouts.{Decomposition, shannon, positive, negative, Layout}
use Rattle.diagrams.specs.Diagrams.{Lawful, Diagram, leaf, node, same, top, low}
use Rattle.diagrams.specs.Tasks.{Operation, sum, difference, product, Task, constant, mark, combine, restrict, act, Fit}
use Rattle.diagrams.specs.Building.{mark_low, mark_high, where_same, leaves, quick, short, long, smaller_of, crossed, high_call, on_the_way, chosen, choosing, split, smaller, Operand, AtHand, low_of, high_of, result_of}
use Rattle.diagrams.specs.Theorems.{Tied, AllTied}
use Rattle.diagrams.proofs.Nodes.{low_here, high_here}
use Rattle.diagrams.proofs.Composing.{way_to_combine, way_to_restrict, mark_value, builds}
use Rattle.diagrams.proofs.Listed.{all_mem}

-- A shortcut is no split.
not_short : (l : ℕ) (a b : Task) (way : List Task) (d : Diagram) (w : List Task) → ¬ (long l a b way ≡ short d w)
not_short l a b way d w e = let z : ◌≡◌ {A = ℕ} 0 1 = cc in omega arith

same_short : (a d : Diagram) (v w : List Task) → short a v ≡ short d w → a ≡ d
same_short a d v w e = cc

module _ (K : Kind) (L : Layout) where
  -- Every operand of a call is at hand for `task`.
  abbrev Given : Task → Task → Type 0
  Given task part = (d : Diagram) → Operand K L part d → AtHand K L task d

  -- What may answer `task` at once.
  abbrev Ready : Task → Diagram → Type 0
  Ready task d = AtHand K L task d ⊎ ((v : ℕ) × (d ≡ leaf v)) ⊎ ((l : ℕ) × (a : Diagram) × (b : Diagram) × (d ≡ node l a b) × AtHand K L task a × AtHand K L task b)

  tied : (task : Task) → AllByRecursion (Given task) (smaller K L task) → ((d : Diagram) (way : List Task) → split K L task ≡ short d way → Ready task d) → Tied K L task
  tied task all ready = record { operands = λ part m. all_mem (Given task) (smaller K L task) all m; shortcuts = ready }

  -- A diagram is its own low part at a level on which it does not stand.
  low_away : (d : Diagram) → (l : ℕ) × (d ≡ low K L l d)
  low_away (leaf v) = (0, refl)
  low_away (node m a b) = (
    suc m,
    elim (ℕ_discrete (suc m) m) as (λ s. node m a b ≡ elim s [ yes _ ↦ a | no _ ↦ node m a b ]) [ yes e ↦ absurd (omega arith) | no _ ↦ refl ],
  )

  -- An operand is at hand.
  at_hand : (task : Task) (d : Diagram) → Operand K L task d → AtHand K L task d
  at_hand task d p = let r = low_away d in low_of d r.0 p r.1

  module _ (task : Task) where
    given_two : (o : Operation) (a b : Diagram) → AtHand K L task a → AtHand K L task b → Given task (combine o a b)
    given_two o a b p q d (inl e) = rw e p
    given_two o a b p q d (inr e) = rw e q

  -- A combination without a shortcut, from its parts at a level: given those and the answers of the calls on the way, all of them are given.
  module _ (task : Task) (la ha lb hb : Diagram) (pla : AtHand K L task la) (pha : AtHand K L task ha) (plb : AtHand K L task lb) (phb : AtHand K L task hb) where
    davio_given : ((part : Task) → Memᴰ part (on_the_way K L la ha lb hb positive product) → Memᴰ part (smaller K L task))
        → AllByRecursion (Given task) (high_call K L la ha lb hb positive product ∷ on_the_way K L la ha lb hb positive product)
    davio_given inside =
        let p₀ = result_of (combine product la hb) (inside _ (Memᴰ.head refl)) refl in
        let p₁ = result_of (combine product ha lb) (inside _ (Memᴰ.tail (Memᴰ.head refl))) refl in
        let p₂ = result_of (crossed K L la ha lb hb) (inside _ (Memᴰ.tail (Memᴰ.tail (Memᴰ.head refl)))) refl in
        let p₃ = result_of (combine product ha hb) (inside _ (Memᴰ.tail (Memᴰ.tail (Memᴰ.tail (Memᴰ.head refl))))) refl in (
          given_two task sum _ _ p₂ p₃,
          (
            given_two task product la hb pla phb,
            (given_two task product ha lb pha plb, (given_two task sum _ _ p₀ p₁, (given_two task product ha hb pha phb, tt))),
          ),
        )

    way_given : (t : Decomposition) (o : Operation)
        → ((part : Task) → Memᴰ part (on_the_way K L la ha lb hb t o) → Memᴰ part (smaller K L task))
        → AllByRecursion (Given task) (high_call K L la ha lb hb t o ∷ on_the_way K L la ha lb hb t o)
    way_given t sum inside = (given_two task sum ha hb pha phb, tt)
    way_given t difference inside = (given_two task difference ha hb pha phb, tt)
    way_given shannon product inside = (given_two task product ha hb pha phb, tt)
    way_given positive product inside = davio_given inside
    way_given negative product inside = davio_given inside

  -- A combination's shortcut: an operand, or a leaf.
  module _ (o : Operation) (a b : Diagram) where
    abbrev Quick : Option Diagram → Type 0
    Quick q = (d : Diagram) → q ≡ some d → ((d ≡ a) ⊎ (d ≡ b)) ⊎ ((v : ℕ) × (d ≡ leaf v))

    quick_where : (x y d : Diagram) (rest : Option Diagram) → ((d ≡ a) ⊎ (d ≡ b)) ⊎ ((v : ℕ) × (d ≡ leaf v)) → Quick rest
        → Quick (where_same x y d rest)
    quick_where x y d rest p r =
        elim (same x y) as (λ s. Quick (elim s [ yes _ ↦ some d | no _ ↦ rest ])) [ yes _ ↦ here | no _ ↦ r ]
      where
        here : Quick (some d)
        here e q = let same-d : d ≡ e = cc in subst (λ x. ((x ≡ a) ⊎ (x ≡ b)) ⊎ ((v : ℕ) × (x ≡ leaf v))) same-d p

    quick_leaves : (x y : Diagram) → Quick (leaves K o x y)
    quick_leaves (leaf u) (leaf v) d q = let e : d ≡ leaf (act K o u v) = cc in inr (act K o u v, e)
    quick_leaves (leaf u) (node l x y) d q = let z : ◌≡◌ {A = ℕ} 0 1 = cc in absurd (omega arith)
    quick_leaves (node l x y) z d q = let z : ◌≡◌ {A = ℕ} 0 1 = cc in absurd (omega arith)

  quick_kinds : (o : Operation) (a b : Diagram) → Quick o a b (quick K o a b)
  quick_kinds sum a b = quick_where sum a b _ _ _ _ (inl (inr refl)) (quick_where sum a b _ _ _ _ (inl (inl refl)) (quick_leaves sum a b a b))
  quick_kinds difference a b =
      quick_where difference a b _ _ _ _ (inl (inl refl)) (quick_where difference a b _ _ _ _ (inr (K.zero, refl)) (quick_leaves difference a b a b))
  quick_kinds product a b =
      quick_where product a b _ _ _ _ (inr (K.zero, refl)) (quick_where product a b _ _ _ _ (inr (K.zero, refl))
      (quick_where product a b _ _ _ _ (inl (inr refl)) (quick_where product a b _ _ _ _ (inl (inl refl)) (quick_leaves product a b a b))))

  combine_given : (o : Operation) (a b : Diagram) → AllByRecursion (Given (combine o a b)) (smaller K L (combine o a b))
  combine_given o a b = go (quick K o a b) refl
    where
      task : Task
      task = combine o a b

      l : ℕ
      l = min (top L a) (top L b)

      go : (q : Option Diagram) → quick K o a b ≡ q → AllByRecursion (Given (combine o a b)) (smaller_of (way_to_combine K L o a b q))
      go (some d) e = tt
      go none e =
          let inside : (part : Task) → Memᴰ part (smaller_of (way_to_combine K L o a b none)) → Memᴰ part (smaller K L (combine o a b))
          = λ part m. subst (λ q. Memᴰ part (smaller_of (way_to_combine K L o a b q))) (sym e) m in
          let la = low_of a l (inl refl) refl in
          let ha = high_of a l (inl refl) refl in
          let lb = low_of b l (inr refl) refl in
          let hb = high_of b l (inr refl) refl in (
            given_two (combine o a b) o _ _ la lb,
            way_given (combine o a b) _ _ _ _ la ha lb hb (L.type l) o (λ part m. inside part (Memᴰ.tail (Memᴰ.tail m))),
          )

  combine_ready : (o : Operation) (a b : Diagram) (d : Diagram) (way : List Task) → split K L (combine o a b) ≡ short d way → Ready (combine o a b) d
  combine_ready o a b d way e = go (quick K o a b) (quick_kinds o a b) e
    where
      go : (q : Option Diagram) → Quick o a b q → way_to_combine K L o a b q ≡ short d way → Ready (combine o a b) d
      go (some x) kinds p =
          elim (kinds d (ap some (same_short x d [] way p))) [ inl operand ↦ inl (at_hand (combine o a b) d operand) | inr v ↦ inr (inl v) ]
      go none kinds p = absurd (not_short _ _ _ _ d way p)

module _ {K : Kind} {L : Layout} (ok : Lawful K L) where
  mark_ready : (i : ℕ) → Fit K L 0 (mark i) → (d : Diagram) (way : List Task) → split K L (mark i) ≡ short d way → Ready K L (mark i) d
  mark_ready i fit d way e =
      let t = L.type (L.level i) in
      let values = mark_value ok t in
      inr (inr (
        L.level i,
        leaf (mark_low K t),
        leaf (mark_high K t),
        sym (same_short _ d _ way e),
        result_of (constant (mark_low K t)) (Memᴰ.head refl) (builds K L ok (constant (mark_low K t)) values.0),
        result_of (constant (mark_high K t)) (Memᴰ.tail (Memᴰ.head refl)) (builds K L ok (constant (mark_high K t)) values.1),
      ))

  module _ (l : ℕ) (a b : Diagram) (i c : ℕ) where
    abbrev task : Task
    task = restrict (node l a b) i c

    low_child : AtHand K L task a
    low_child = low_of (node l a b) l refl (sym (low_here ok l a b))

    high_child : AtHand K L task b
    high_child = high_of (node l a b) l refl (sym (high_here ok l a b))

    choosing_given : (t : Decomposition) (k : ℕ) → AllByRecursion (Given K L task) (choosing K L t k a b)
    choosing_given shannon k = tt
    choosing_given positive zero = tt
    choosing_given positive (suc k) = (given_two K L task sum a b low_child high_child, tt)
    choosing_given negative zero = (given_two K L task sum a b low_child high_child, tt)
    choosing_given negative (suc k) = tt

    restrict_given : (s : Ordering) → AllByRecursion (Given K L task) (smaller_of (way_to_restrict K L l a b i c s))
    restrict_given Ordering.lt = (λ d e. rw e low_child, (λ d e. rw e high_child, tt))
    restrict_given Ordering.eq = choosing_given (L.type l) c
    restrict_given Ordering.gt = tt

    chosen_at_hand : (t : Decomposition) (k : ℕ) → ((part : Task) → Memᴰ part (choosing K L t k a b) → Memᴰ part (smaller K L task))
        → AtHand K L task (chosen K L t k a b)
    chosen_at_hand shannon zero inside = low_child
    chosen_at_hand shannon (suc k) inside = high_child
    chosen_at_hand positive zero inside = low_child
    chosen_at_hand positive (suc k) inside = result_of (combine sum a b) (inside _ (Memᴰ.head refl)) refl
    chosen_at_hand negative zero inside = result_of (combine sum a b) (inside _ (Memᴰ.head refl)) refl
    chosen_at_hand negative (suc k) inside = low_child

    restrict_ready : (d : Diagram) (way : List Task) (s : Ordering) → compare l (L.level i) ≡ s
        → way_to_restrict K L l a b i c s ≡ short d way → Ready K L task d
    restrict_ready d way Ordering.lt q e = absurd (not_short _ _ _ _ d way e)
    restrict_ready d way Ordering.eq q e =
        inl (subst (AtHand K L task) (same_short _ d _ way e)
        (chosen_at_hand (L.type l) c (λ part m. subst (λ s. Memᴰ part (smaller_of (way_to_restrict K L l a b i c s))) (sym q) m)))
    restrict_ready d way Ordering.gt q e = inl (subst (AtHand K L task) (same_short _ d _ way e) (at_hand K L task (node l a b) refl))

pub ties : AllTied
ties K L ok (constant v) fit = tied K L (constant v) tt (λ d way e. inr (inl (v, sym (same_short (leaf v) d [] way e))))
ties K L ok (mark i) fit = tied K L (mark i) ((λ d none. absurd none), ((λ d none. absurd none), tt)) (mark_ready ok i fit)
ties K L ok (combine o a b) fit = tied K L (combine o a b) (combine_given K L o a b) (combine_ready K L o a b)
ties K L ok (restrict (leaf v) i c) fit = tied K L (restrict (leaf v) i c) tt (λ d way e. inr (inl (v, sym (same_short (leaf v) d [] way e))))
ties K L ok (restrict (node l a b) i c) fit =
    tied K L (restrict (node l a b) i c) (restrict_given ok l a b i c (compare l (L.level i)))
    (λ d way. restrict_ready ok l a b i c d way (compare l (L.level i)) refl)
