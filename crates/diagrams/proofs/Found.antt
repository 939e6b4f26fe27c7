-- One record: its bytes are found to be what they were written of, and only those. Assumes nothing.
use Rattle.std.proofs.Common.{◌≡◌, ℕ, zero, suc, ◌+◌, ◌*◌, ◌/◌, ◌%◌, ◌^◌, ◌<◌, ◌≤◌, Bool, true, false, cond, ◌&&◌, ◌||◌, T, eqb, ltb, leb, ◌⊎◌, List, [], ◌∷◌, ◌++◌, length, get_or, drop, sym, refl, ap, ◌∙◌, subst, ap₂, inl, inr, add-zero, mod-eq_of_lt, arith, drop-cons}
use Rattle.std.proofs.lemmas.Nat.{div-mul-add, mod-mul-add, div_below, mod_below, div-add-mod'}
use Rattle.std.proofs.lemmas.Bool.{ltb-true, ltb-false, lt-ltb, and_parts, leb-false, eqb-true, eqb-false, le-ltb, lt-leb, eq-eqb, ne_eqb, cases_Bool, or_parts, or_from, not-false, not_from_true}
use Rattle.std.proofs.lemmas.Float.{T_from_true}
use Rattle.std.proofs.ByRecursion.{All-get_or}
use Rattle.std.specs.List.{AllByRecursion}
use Rattle.diagrams.specs.Kinds.{Kind}
use Rattle.diagrams.specs.Layouts.{Layout}
use Rattle.diagrams.specs.Diagrams.{Diagram, leaf, node, same, spare, top, Good}
use Rattle.diagrams.specs.Sizes.{among, Distinct}
use Rattle.diagrams.specs.Sheets.{two, four, record_of, by_level, record_at, ender}
use Rattle.diagrams.specs.Reading.{Found, bad, part, fine, unless, holds, two_at, four_at, stated, kind_of, cut, by_kind, in_turn, nth, Children, frame_rules, leaf_rules, node_rules, end_rules, leaf_found, node_found, end_found, found}
use Rattle.diagrams.proofs.Visits.{Mem, mem_nth, number_nth}

-- Rules that are all kept; rules of which none was broken.
abbrev pub Kept : List (ℕ × Bool) → Type 0
Kept [] = Unit {0}
Kept (rule ∷ rules) = (rule.1 ≡ false) × Kept rules

pub passes : {A : Type 0} (breaks : ℕ → A) (rules : List (ℕ × Bool)) (next : A) → Kept rules → unless breaks rules next ≡ next
passes breaks [] next h = refl
passes breaks (rule ∷ rules) next h = rw h.0 (passes breaks rules next h.1)

pub passed : {A : Type 0} (breaks : ℕ → A) (x : A) → ((k : ℕ) → ¬ (breaks k ≡ x)) → (rules : List (ℕ × Bool)) (next : A)
    → unless breaks rules next ≡ x → Kept rules × (next ≡ x)
passed breaks x n [] next h = (tt, h)
passed breaks x n (rule ∷ rules) next h =
    elim (cases_Bool rule.1) [
      | inl p ↦ absurd (n rule.0 (rw p at h))
      | inr p ↦ let q : Kept rules × (next ≡ x) = passed breaks x n rules next (rw p at h) in ((p, q.0), q.1)
    ]

pub not_part : (d : Diagram) (k : ℕ) → ¬ (bad k ≡ part d)
not_part d k e = let z : ◌≡◌ {A = ℕ} 0 1 = cc in omega arith

pub not_fine : (k : ℕ) → ¬ (bad k ≡ fine)
not_fine k e = let z : ◌≡◌ {A = ℕ} 0 1 = cc in omega arith

part_same : (x d : Diagram) → part x ≡ part d → x ≡ d
part_same x d e = cc

part_fine : (x : Diagram) → ¬ (part x ≡ fine)
part_fine x e = let z : ◌≡◌ {A = ℕ} 0 1 = cc in omega arith

T_true : (b : Bool) → T b → b ≡ true
T_true true t = refl
T_true false t = absurd t

pub holds_no : {P : Type 0} (s : Dec P) → ¬ P → holds s ≡ false
holds_no (yes p) n = absurd (n p)
holds_no (no _) n = refl

no_holds : {P : Type 0} (s : Dec P) → holds s ≡ false → ¬ P
no_holds (yes p) e q = let z : ◌≡◌ {A = ℕ} 1 0 = ap (λ c. cond c 1 0) e in absurd (omega arith)
no_holds (no n) e q = n q

turn_end : (count : ℕ) → 0 < count → in_turn count 4 ≡ true
turn_end count h = lt-ltb 0 count h

-- What is neither a leaf's nor a node's turn is an end's, after one of these.
end_turn : (count k : ℕ) → in_turn count k ≡ true → ¬ (k ≡ 2) → ¬ (k ≡ 3) → (k ≡ 4) × (0 < count)
end_turn count k h n m =
    let both : (eqb k 4 && ltb 0 count) ≡ true = rw (ne_eqb k 2 n, ne_eqb k 3 m) at h in
    let p = and_parts (eqb k 4) (ltb 0 count) both in
    (eqb-true k 4 p.0, ltb-true 0 count p.1)

by_kind_cases : {A : Type 0} (k : ℕ) (x y z w : A) → by_kind k x y z ≡ w
    → ((k ≡ 2) × (x ≡ w)) ⊎ (((k ≡ 3) × (y ≡ w)) ⊎ ((¬ (k ≡ 2)) × (¬ (k ≡ 3)) × (z ≡ w)))
by_kind_cases k x y z w h =
    elim (cases_Bool (eqb k 2)) [
      | inl p ↦ inl (eqb-true k 2 p, rw p at h)
      | inr p ↦ elim (cases_Bool (eqb k 3)) [
        | inl q ↦ inr (inl (eqb-true k 3 q, rw (p, q) at h))
        | inr q ↦ inr (inr (eqb-false k 2 p, eqb-false k 3 q, rw (p, q) at h))
      ]
    ]

-- The first n bytes from place j on.
fronts : (n j : ℕ) (bytes : List ℕ) → j + n ≤ length bytes → drop j bytes ≡ by_level n j (λ i. get_or bytes i 0) ++ drop (j + n) bytes
fronts zero j bytes h = ap (λ i. drop i bytes) (sym (add-zero j))
fronts (suc n) j bytes h =
    drop-cons bytes j 0 (omega arith)
    ∙ ap (λ ds. get_or bytes j 0 ∷ ds) (fronts n (suc j) bytes (omega arith) ∙ ap (λ i. by_level n (suc j) (λ i. get_or bytes i 0) ++ drop i bytes) (omega arith))

front : (n : ℕ) (bytes : List ℕ) → n ≤ length bytes → bytes ≡ by_level n 0 (λ i. get_or bytes i 0) ++ drop n bytes
front n bytes h = fronts n 0 bytes (omega arith) ∙ ap (λ i. by_level n 0 (λ i. get_or bytes i 0) ++ drop i bytes) (omega arith)

abbrev pub Bytes : List ℕ → Type 0
Bytes bytes = AllByRecursion (λ b. b < 256) bytes

byte : (bytes : List ℕ) → Bytes bytes → (i : ℕ) → i < length bytes → get_or bytes i 0 < 256
byte bytes all i h = All-get_or (λ b. b < 256) bytes i 0 h all

-- What two and four bytes tell is spelled by them, and what is spelled is told.
two_spelled : (a b : ℕ) → a < 256 → b < 256 → two (b * 256 + a) ≡ a ∷ b ∷ []
two_spelled a b h k =
    ap₂ (λ x y. x ∷ y ∷ []) (mod-mul-add b 256 a h) (ap (λ n. n % 256) (div-mul-add b 256 a h) ∙ mod-eq_of_lt k)

four_spelled : (a b c d : ℕ) → a < 256 → b < 256 → c < 256 → d < 256 → four ((d * 256 + c) * 65536 + (b * 256 + a)) ≡ a ∷ b ∷ c ∷ d ∷ []
four_spelled a b c d h k p q =
    let z : b * 256 + a < 65536 = omega arith in
    ap₂ (λ xs ys. xs ++ ys) (ap two (mod-mul-add (d * 256 + c) 65536 (b * 256 + a) z) ∙ two_spelled a b h k)
    (ap two (div-mul-add (d * 256 + c) 65536 (b * 256 + a) z) ∙ two_spelled c d p q)

pub two_told : (n : ℕ) → n < 65536 → n / 256 % 256 * 256 + n % 256 ≡ n
two_told n h = ap (λ q. q * 256 + n % 256) (mod-eq_of_lt (div_below n 256 256 (omega arith) h)) ∙ div-add-mod' n 256

pub four_told : (n : ℕ) → n < 2 ^ 32
    → (n / 65536 / 256 % 256 * 256 + n / 65536 % 256) * 65536 + (n % 65536 / 256 % 256 * 256 + n % 65536 % 256) ≡ n
four_told n h =
    ap₂ (λ x y. x * 65536 + y) (two_told (n / 65536) (div_below n 65536 65536 (omega arith) h)) (two_told (n % 65536) (mod_below n 65536 (omega arith)))
    ∙ div-add-mod' n 65536

leaf_bytes : (bytes : List ℕ) → Bytes bytes → 8 ≤ length bytes → stated bytes ≡ 4 → kind_of bytes ≡ 2
    → bytes ≡ record_of 2 (four (four_at 4 bytes)) ++ drop 8 bytes
leaf_bytes bytes all h s k =
    let at : (i : ℕ) → i < length bytes → get_or bytes i 0 < 256 = byte bytes all in
    let e = front 8 bytes h in
    let e0 : get_or bytes 0 0 ≡ 4 = omega (arith, at 0 (omega arith)) in
    let e1 : get_or bytes 1 0 ≡ 0 = omega (arith, at 0 (omega arith)) in
    let e2 : get_or bytes 2 0 ≡ 2 = omega (arith, at 2 (omega arith)) in
    let e3 : get_or bytes 3 0 ≡ 0 = omega (arith, at 2 (omega arith)) in
    let q = four_spelled _ _ _ _ (at 4 (omega arith)) (at 5 (omega arith)) (at 6 (omega arith)) (at 7 (omega arith)) in
    e ∙ rw (e0, e1, e2, e3) (ap (λ body. record_of 2 body ++ drop 8 bytes) (sym q))

node_bytes : (bytes : List ℕ) → Bytes bytes → 9 ≤ length bytes → stated bytes ≡ 5 → kind_of bytes ≡ 3
    → bytes ≡ record_of 3 (get_or bytes 4 0 ∷ two (two_at 5 bytes) ++ two (two_at 7 bytes)) ++ drop 9 bytes
node_bytes bytes all h s k =
    let at : (i : ℕ) → i < length bytes → get_or bytes i 0 < 256 = byte bytes all in
    let e = front 9 bytes h in
    let e0 : get_or bytes 0 0 ≡ 5 = omega (arith, at 0 (omega arith)) in
    let e1 : get_or bytes 1 0 ≡ 0 = omega (arith, at 0 (omega arith)) in
    let e2 : get_or bytes 2 0 ≡ 3 = omega (arith, at 2 (omega arith)) in
    let e3 : get_or bytes 3 0 ≡ 0 = omega (arith, at 2 (omega arith)) in
    let p = two_spelled _ _ (at 5 (omega arith)) (at 6 (omega arith)) in
    let q = two_spelled _ _ (at 7 (omega arith)) (at 8 (omega arith)) in
    e ∙ rw (e0, e1, e2, e3) (ap₂ (λ x y. record_of 3 (get_or bytes 4 0 ∷ x ++ y) ++ drop 9 bytes) (sym p) (sym q))

end_bytes : (bytes : List ℕ) → Bytes bytes → 6 ≤ length bytes → stated bytes ≡ 2 → kind_of bytes ≡ 4
    → bytes ≡ record_of 4 (two (two_at 4 bytes)) ++ drop 6 bytes
end_bytes bytes all h s k =
    let at : (i : ℕ) → i < length bytes → get_or bytes i 0 < 256 = byte bytes all in
    let e = front 6 bytes h in
    let e0 : get_or bytes 0 0 ≡ 2 = omega (arith, at 0 (omega arith)) in
    let e1 : get_or bytes 1 0 ≡ 0 = omega (arith, at 0 (omega arith)) in
    let e2 : get_or bytes 2 0 ≡ 4 = omega (arith, at 2 (omega arith)) in
    let e3 : get_or bytes 3 0 ≡ 0 = omega (arith, at 2 (omega arith)) in
    let q = two_spelled _ _ (at 4 (omega arith)) (at 5 (omega arith)) in
    e ∙ rw (e0, e1, e2, e3) (ap (λ body. record_of 4 body ++ drop 6 bytes) (sym q))

cut_false : (bytes : List ℕ) → cut bytes ≡ false → 4 + stated bytes ≤ length bytes
cut_false bytes e = ltb-false (length bytes) (4 + stated bytes) (or_parts (ltb (length bytes) 4) (ltb (length bytes) (4 + stated bytes)) e).1

module _ (K : Kind) (L : Layout) where
  deeper_good : (l : ℕ) (d : Diagram) → Good K L 0 d → l < top L d → Good K L (suc l) d
  deeper_good l (leaf v) g h = g
  deeper_good l (node m a b) g h = (h, g.1, g.2, g.3, g.4)

  good_top : (l : ℕ) (d : Diagram) → l < L.size → Good K L (suc l) d → l < top L d
  good_top l (leaf v) h g = h
  good_top l (node m a b) h g = g.0

module _ (K : Kind) (L : Layout) (limit : ℕ) (seen : List Diagram) where
  -- The rules of any record, kept where it is whole, in turn and as long as its kind.
  frame : (bytes : List ℕ) → 4 ≤ length bytes → 4 + stated bytes ≤ length bytes → in_turn (length seen) (kind_of bytes) ≡ true
      → stated bytes ≡ by_kind (kind_of bytes) 4 5 2 → Kept (frame_rules (length seen) bytes)
  frame bytes h k t s = (
    or_from (ltb (length bytes) 4) (ltb (length bytes) (4 + stated bytes)) (le-ltb _ _ h) (le-ltb _ _ k),
    (not_from_true _ t, (not_from_true _ (eq-eqb _ _ s), tt)),
  )

  pub leaf_is_found : (v : ℕ) (rest : List ℕ) → length seen < limit → T (K.value v) → v < 2 ^ 32 → ¬ Mem (leaf v) seen
      → found K L limit seen (record_of 2 (four v) ++ rest) ≡ part (leaf v)
  leaf_is_found v rest room value small new =
      let bytes : List ℕ = record_of 2 (four v) ++ rest in
      passes bad (frame_rules (length seen) bytes) _ (frame bytes (omega arith) (omega arith) refl refl)
      ∙ ap (leaf_found K L limit seen) (four_told v small)
      ∙ passes bad (leaf_rules K L limit seen v) (part (leaf v)) (lt-leb _ _ room, (not_from_true _ (T_true _ value), (holds_no (among (leaf v) seen) new, tt)))

  pub node_is_found : (l x y : ℕ) (rest : List ℕ) → length seen < limit → x < 65536 → y < 65536 → x < length seen → y < length seen
      → Good K L 0 (node l (nth seen x) (nth seen y)) → ¬ Mem (node l (nth seen x) (nth seen y)) seen
      → found K L limit seen (record_of 3 (l ∷ two x ++ two y) ++ rest) ≡ part (node l (nth seen x) (nth seen y))
  node_is_found l x y rest room sx sy hx hy good new =
      let bytes : List ℕ = record_of 3 (l ∷ two x ++ two y) ++ rest in
      let a : Diagram = nth seen x in
      let b : Diagram = nth seen y in
      passes bad (frame_rules (length seen) bytes) _ (frame bytes (omega arith) (omega arith) refl refl)
      ∙ ap₂ (node_found K L limit seen l) (two_told x sx) (two_told y sy)
      ∙ passes bad (node_rules K L limit seen l x y) (part (node l a b)) (
        lt-leb _ _ room,
        (
          or_from (leb L.size l || (leb (length seen) x || leb (length seen) y)) (leb (top L a) l || leb (top L b) l)
              (or_from (leb L.size l) (leb (length seen) x || leb (length seen) y) (lt-leb _ _ good.1) (or_from (leb (length seen) x) (leb (length seen) y) (lt-leb _ _ hx) (lt-leb _ _ hy)))
              (or_from (leb (top L a) l) (leb (top L b) l) (lt-leb _ _ (good_top K L l a good.1 good.2)) (lt-leb _ _ (good_top K L l b good.1 good.3))),
          (holds_no (same b (spare K (L.type l) a)) good.4, (holds_no (among (node l a b) seen) new, tt)),
        ),
      )

  pub end_is_found : (rest : List ℕ) → 0 < length seen → length seen < 65536 → found K L limit seen (ender seen ++ rest) ≡ fine
  end_is_found rest some small =
      passes bad (frame_rules (length seen) (ender seen ++ rest)) _ (frame (ender seen ++ rest) (omega arith) (omega arith) (turn_end (length seen) some) refl)
      ∙ ap (end_found K L limit seen) (two_told (length seen) small)
      ∙ passes bad (end_rules K L limit seen (length seen)) fine (not_from_true _ (eq-eqb (length seen) (length seen) refl), tt)

  -- What is found, was written.
  pub record Stood (bytes : List ℕ) (d : Diagram) : Type 0 where
    pub spelled : bytes ≡ record_at seen d ++ drop (length (record_at seen d)) bytes
    pub good : Good K L 0 d
    pub new : ¬ Mem d seen
    pub children : Children d seen
    pub room : length seen < limit

  module _ (bytes : List ℕ) (all : Bytes bytes) (goods : AllByRecursion (Good K L 0) seen) (apart : Distinct seen) where
    abbrev what : Found
    what = by_kind (kind_of bytes) (leaf_found K L limit seen (four_at 4 bytes)) (node_found K L limit seen (get_or bytes 4 0) (two_at 5 bytes) (two_at 7 bytes)) (end_found K L limit seen (two_at 4 bytes))

    leaf_stood : (d : Diagram) → 4 + stated bytes ≤ length bytes → stated bytes ≡ 4 → kind_of bytes ≡ 2
        → leaf_found K L limit seen (four_at 4 bytes) ≡ part d → Stood bytes d
    leaf_stood d h s k e =
        let q = passed bad (part d) (not_part d) (leaf_rules K L limit seen (four_at 4 bytes)) (part (leaf (four_at 4 bytes))) e in
        let same-leaf = part_same _ d q.1 in
        subst (Stood bytes) same-leaf (record {
          spelled = leaf_bytes bytes all (omega arith) s k;
          good = T_from_true _ (not-false _ q.0.1.0);
          new = no_holds (among (leaf (four_at 4 bytes)) seen) q.0.1.1.0;
          children = tt;
          room = leb-false _ _ q.0.0;
        })

    node_stood : (d : Diagram) → 4 + stated bytes ≤ length bytes → stated bytes ≡ 5 → kind_of bytes ≡ 3
        → node_found K L limit seen (get_or bytes 4 0) (two_at 5 bytes) (two_at 7 bytes) ≡ part d → Stood bytes d
    node_stood d h s k e =
        let l : ℕ = get_or bytes 4 0 in
        let x : ℕ = two_at 5 bytes in
        let y : ℕ = two_at 7 bytes in
        let a : Diagram = nth seen x in
        let b : Diagram = nth seen y in
        let q = passed bad (part d) (not_part d) (node_rules K L limit seen l x y) (part (node l a b)) e in
        let same-node = part_same _ d q.1 in
        let r = or_parts (leb L.size l || (leb (length seen) x || leb (length seen) y)) (leb (top L a) l || leb (top L b) l) q.0.1.0 in
        let r0 = or_parts (leb L.size l) (leb (length seen) x || leb (length seen) y) r.0 in
        let r1 = or_parts (leb (length seen) x) (leb (length seen) y) r0.1 in
        let r2 = or_parts (leb (top L a) l) (leb (top L b) l) r.1 in
        let hx : x < length seen = leb-false _ _ r1.0 in
        let hy : y < length seen = leb-false _ _ r1.1 in
        subst (Stood bytes) same-node (record {
          spelled = node_bytes bytes all (omega arith) s k
              ∙ ap₂ (λ i j. record_of 3 (l ∷ two i ++ two j) ++ drop 9 bytes) (sym (number_nth seen x apart hx)) (sym (number_nth seen y apart hy));
          good = (
            omega arith,
            leb-false _ _ r0.0,
            deeper_good K L l a (All-get_or (Good K L 0) seen x (leaf 0) hx goods) (leb-false _ _ r2.0),
            deeper_good K L l b (All-get_or (Good K L 0) seen y (leaf 0) hy goods) (leb-false _ _ r2.1),
            no_holds (same b (spare K (L.type l) a)) q.0.1.1.0,
          );
          new = no_holds (among (node l a b) seen) q.0.1.1.1.0;
          children = (mem_nth seen x hx, mem_nth seen y hy);
          room = leb-false _ _ q.0.0;
        })

    end_never : (d : Diagram) (count : ℕ) → ¬ (end_found K L limit seen count ≡ part d)
    end_never d count e = part_fine d (sym (passed bad (part d) (not_part d) (end_rules K L limit seen count) fine e).1)

    pub part_stood : (d : Diagram) → found K L limit seen bytes ≡ part d → Stood bytes d
    part_stood d e =
        let q = passed bad (part d) (not_part d) (frame_rules (length seen) bytes) what e in
        let h = cut_false bytes q.0.0 in
        let s = eqb-true _ _ (not-false _ q.0.1.1.0) in
        elim (by_kind_cases (kind_of bytes) (leaf_found K L limit seen (four_at 4 bytes)) (node_found K L limit seen (get_or bytes 4 0) (two_at 5 bytes) (two_at 7 bytes)) (end_found K L limit seen (two_at 4 bytes)) (part d) q.1) [
          | inl p ↦ leaf_stood d h (rw p.0 at s) p.0 p.1
          | inr r ↦ elim r [
            | inl p ↦ node_stood d h (rw p.0 at s) p.0 p.1
            | inr p ↦ absurd (end_never d (two_at 4 bytes) p.2)
          ]
        ]

    leaf_never : (v : ℕ) → ¬ (leaf_found K L limit seen v ≡ fine)
    leaf_never v e = part_fine _ (passed bad fine not_fine (leaf_rules K L limit seen v) (part (leaf v)) e).1

    node_never : (l x y : ℕ) → ¬ (node_found K L limit seen l x y ≡ fine)
    node_never l x y e =
        part_fine _ (passed bad fine not_fine (node_rules K L limit seen l x y) (part (node l (nth seen x) (nth seen y))) e).1

    pub end_stood : found K L limit seen bytes ≡ fine → (bytes ≡ ender seen ++ drop (length (ender seen)) bytes) × (0 < length seen)
    end_stood e =
        let q = passed bad fine not_fine (frame_rules (length seen) bytes) what e in
        let h = cut_false bytes q.0.0 in
        let t = not-false _ q.0.1.0 in
        let s = eqb-true _ _ (not-false _ q.0.1.1.0) in
        elim (by_kind_cases (kind_of bytes) (leaf_found K L limit seen (four_at 4 bytes)) (node_found K L limit seen (get_or bytes 4 0) (two_at 5 bytes) (two_at 7 bytes)) (end_found K L limit seen (two_at 4 bytes)) fine q.1) [
          | inl p ↦ absurd (leaf_never (four_at 4 bytes) p.1)
          | inr r ↦ elim r [
            | inl p ↦ absurd (node_never (get_or bytes 4 0) (two_at 5 bytes) (two_at 7 bytes) p.1)
            | inr p ↦
                let k = end_turn (length seen) (kind_of bytes) t p.0 p.1 in
                let c = passed bad fine not_fine (end_rules K L limit seen (two_at 4 bytes)) fine p.2 in (
                  end_bytes bytes all (omega (arith, rw k.0 at s)) (rw k.0 at s) k.0
                      ∙ ap (λ n. record_of 4 (two n) ++ drop 6 bytes) (eqb-true _ _ (not-false _ c.0.0)),
                  k.1,
                )
          ]
        ]
