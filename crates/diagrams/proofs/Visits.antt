-- The order of writing: what is visited, and numbers in it. Assumes nothing.
use Rattle.std.proofs.Common.{◌≡◌, ℕ, zero, suc, ◌+◌, ◌-◌, ◌<◌, ◌≤◌, ◌⊎◌, List, [], ◌∷◌, ◌++◌, length, sym, refl, ap, ◌∙◌, inl, inr, arith}
use mathlib.Core.List.Memᴰ
use mathlib.Core.List.{Memᴰ}
use Rattle.std.proofs.lemmas.List.{append-nil, append_assoc, length-append, get_or_at}
use Rattle.std.specs.List.{AllByRecursion}
use Rattle.diagrams.specs.Kinds.{Kind}
use Rattle.diagrams.specs.Layouts.{Layout}
use Rattle.diagrams.specs.Diagrams.{Diagram, leaf, node, same, Good}
use Rattle.diagrams.specs.Sizes.{among, Distinct}
use Rattle.diagrams.specs.Sheets.{visited, number}
use Rattle.diagrams.specs.Reading.{Children, Follow, nth, last}

abbrev pub Mem : Diagram → List Diagram → Type 0
Mem d ds = Memᴰ d ds

-- By cases whether a diagram stands in a list.
pub by_among : {A : Type 0} (d : Diagram) (ds : List Diagram) (x y : A) (P : A → Type 0) → (Mem d ds → P x) → (¬ Mem d ds → P y)
    → P (elim (among d ds) [ yes _ ↦ x | no _ ↦ y ])
by_among d ds x y P p q = elim (among d ds) as (λ s. P (elim s [ yes _ ↦ x | no _ ↦ y ])) [ yes m ↦ p m | no n ↦ q n ]

pub by_visited : (P : List Diagram → Type 0) (l : ℕ) (a b : Diagram) (seen : List Diagram) → (Mem (node l a b) seen → P seen)
    → (¬ Mem (node l a b) seen → P (visited b (visited a seen) ++ (node l a b ∷ []))) → P (visited (node l a b) seen)
by_visited P l a b seen p q = by_among (node l a b) seen seen (visited b (visited a seen) ++ (node l a b ∷ [])) P p q

pub by_leaf : (P : List Diagram → Type 0) (v : ℕ) (seen : List Diagram) → (Mem (leaf v) seen → P seen)
    → (¬ Mem (leaf v) seen → P (seen ++ (leaf v ∷ []))) → P (visited (leaf v) seen)
by_leaf P v seen p q = by_among (leaf v) seen seen (seen ++ (leaf v ∷ [])) P p q

-- Visiting adds at the end.
abbrev pub Adds : List Diagram → List Diagram → Type 0
Adds seen all = (more : List Diagram) × (all ≡ seen ++ more)

adds_none : (seen : List Diagram) → Adds seen seen
adds_none seen = ([], sym (append-nil seen))

adds_more : (seen mid all : List Diagram) → Adds seen mid → Adds mid all → Adds seen all
adds_more seen mid all p q = (p.0 ++ q.0, q.1 ∙ ap (λ ds. ds ++ q.0) p.1 ∙ append_assoc seen p.0 q.0)

pub visited_adds : (d : Diagram) (seen : List Diagram) → Adds seen (visited d seen)
visited_adds (leaf v) seen = by_leaf (Adds seen) v seen (λ _. adds_none seen) (λ _. (leaf v ∷ [], refl))
visited_adds (node l a b) seen =
    by_visited (Adds seen) l a b seen (λ _. adds_none seen)
    (λ _. adds_more seen _ _ (adds_more seen _ _ (visited_adds a seen) (visited_adds b (visited a seen))) (node l a b ∷ [], refl))

pub visited_keeps : (d x : Diagram) (seen : List Diagram) → Mem x seen → Mem x (visited d seen)
visited_keeps d x seen m = let p = visited_adds d seen in rw p.1 (Memᴰ.append_left p.0 m)

pub mem_last : (d : Diagram) (ds : List Diagram) → Mem d (ds ++ (d ∷ []))
mem_last d ds = Memᴰ.append_right ds (Memᴰ.head refl)

pub visited_has : (d : Diagram) (seen : List Diagram) → Mem d (visited d seen)
visited_has (leaf v) seen = by_leaf (Mem (leaf v)) v seen (λ m. m) (λ _. mem_last (leaf v) seen)
visited_has (node l a b) seen = by_visited (Mem (node l a b)) l a b seen (λ m. m) (λ _. mem_last (node l a b) _)

-- What is added is no larger.
weight : Diagram → ℕ
weight (leaf v) = 0
weight (node l a b) = suc (weight a + weight b)

visited_small : (d x : Diagram) (seen : List Diagram) → Mem x (visited d seen) → Mem x seen ⊎ (weight x ≤ weight d)
unfolding weight
visited_small (leaf v) x seen =
    by_leaf (λ all. Mem x all → Mem x seen ⊎ (weight x ≤ 0)) v seen (λ _ m. inl m)
    (λ _ m. elim (Memᴰ.append_cases seen m) [ inl p ↦ inl p | inr q ↦ inr (rw (Memᴰ.eq_of_singleton q) (omega arith)) ])
visited_small (node l a b) x seen =
    by_visited (λ all. Mem x all → Mem x seen ⊎ (weight x ≤ suc (weight a + weight b))) l a b seen (λ _ m. inl m)
    (λ _ m. elim (Memᴰ.append_cases (visited b (visited a seen)) m) [
      | inl p ↦ elim (visited_small b x (visited a seen) p) [
        | inl q ↦ elim (visited_small a x seen q) [ inl r ↦ inl r | inr w ↦ inr (omega arith) ]
        | inr w ↦ inr (omega arith)
      ]
      | inr q ↦ inr (rw (Memᴰ.eq_of_singleton q) (omega arith))
    ])

pub node_new : (l : ℕ) (a b : Diagram) (seen : List Diagram) → ¬ Mem (node l a b) seen → ¬ Mem (node l a b) (visited b (visited a seen))
unfolding weight
node_new l a b seen n m =
    elim (visited_small b (node l a b) (visited a seen) m) [
      | inl p ↦ elim (visited_small a (node l a b) seen p) [ inl q ↦ n q | inr w ↦ omega arith ]
      | inr w ↦ omega arith
    ]

-- A diagram that is visited from nothing comes last.
pub visited_last : (d : Diagram) → last (visited d []) ≡ d
visited_last (leaf v) = refl
visited_last (node l a b) =
    by_visited (λ all. last all ≡ node l a b) l a b [] (λ m. absurd (Memᴰ.not-nil m))
    (λ _. let ds : List Diagram = visited b (visited a []) in
    get_or_at ds (node l a b) [] (leaf 0) (length (ds ++ (node l a b ∷ [])) - 1) (omega (arith, length-append ds (node l a b ∷ []))))

pub visited_some : (d : Diagram) → 0 < length (visited d [])
visited_some d = some (visited d []) (visited_has d [])
  where
    some : (ds : List Diagram) → Mem d ds → 0 < length ds
    some [] m = absurd (Memᴰ.not-nil m)
    some (e ∷ es) m = omega arith

pub children_more : (d : Diagram) (s t : List Diagram) → Children d s → Children d (s ++ t)
children_more (leaf v) s t c = tt
children_more (node l a b) s t c = (Memᴰ.append_left t c.0, Memᴰ.append_left t c.1)

pub distinct_push : (ds : List Diagram) (d : Diagram) → Distinct ds → ¬ Mem d ds → Distinct (ds ++ (d ∷ []))
distinct_push [] d h n = (Memᴰ.not-nil, tt)
distinct_push (e ∷ es) d h n = (
  (λ m. elim (Memᴰ.append_cases es m) [ inl p ↦ h.0 p | inr q ↦ n (Memᴰ.head (sym (Memᴰ.eq_of_singleton q))) ]),
  distinct_push es d h.1 (λ m. n (Memᴰ.tail m)),
)

module _ (K : Kind) (L : Layout) where
  -- One more at the end.
  pub follow_push : (s ds : List Diagram) (d : Diagram) → Follow K L s ds → Good K L 0 d → ¬ Mem d (s ++ ds) → Children d (s ++ ds)
      → Follow K L s (ds ++ (d ∷ []))
  follow_push s [] d f g n c = (g, rw (append-nil s) at n, rw (append-nil s) at c, tt)
  follow_push s (e ∷ es) d f g n c =
      let e' : (s ++ (e ∷ [])) ++ es ≡ s ++ (e ∷ es) = append_assoc s (e ∷ []) es in
      (f.0, f.1, f.2, follow_push (s ++ (e ∷ [])) es d f.3 g (rw e' n) (rw e' c))

  pub visited_follow : (l : ℕ) (d : Diagram) (seen : List Diagram) → Good K L l d → Follow K L [] seen → Follow K L [] (visited d seen)
  visited_follow l (leaf v) seen g f = by_leaf (Follow K L []) v seen (λ _. f) (λ n. follow_push [] seen (leaf v) f g n tt)
  visited_follow l (node m a b) seen g f =
      by_visited (Follow K L []) m a b seen (λ _. f)
      (λ n. follow_push [] (visited b (visited a seen)) (node m a b)
      (visited_follow (suc m) b (visited a seen) g.3 (visited_follow (suc m) a seen g.2 f))
      (omega arith, g.1, g.2, g.3, g.4) (node_new m a b seen n)
      (visited_keeps b a (visited a seen) (visited_has a seen), visited_has b (visited a seen)))

  -- Those that follow have their children among themselves and those before.
  pub follow_children : (s ds : List Diagram) → Follow K L s ds → AllByRecursion (λ e. Children e (s ++ ds)) ds
  follow_children s [] f = tt
  follow_children s (e ∷ es) f =
      (children_more e s (e ∷ es) f.2, rw (append_assoc s (e ∷ []) es) at (follow_children (s ++ (e ∷ [])) es f.3))

  pub follow_distinct : (s ds : List Diagram) → Distinct s → Follow K L s ds → Distinct (s ++ ds)
  follow_distinct s [] h f = rw (append-nil s) h
  follow_distinct s (e ∷ es) h f =
      rw (append_assoc s (e ∷ []) es) at (follow_distinct (s ++ (e ∷ [])) es (distinct_push s e h f.1) f.3)

  pub follow_good : (s ds : List Diagram) → Follow K L s ds → AllByRecursion (Good K L 0) ds
  follow_good s [] f = tt
  follow_good s (e ∷ es) f = (f.0, follow_good (s ++ (e ∷ [])) es f.3)

-- Numbers.
by_same : {A : Type 0} (d e : Diagram) (x y : A) (P : A → Type 0) → (d ≡ e → P x) → (¬ (d ≡ e) → P y) → P (elim (same d e) [ yes _ ↦ x | no _ ↦ y ])
by_same d e x y P p q = elim (same d e) as (λ s. P (elim s [ yes _ ↦ x | no _ ↦ y ])) [ yes m ↦ p m | no n ↦ q n ]

pub number_here : (d : Diagram) (ds : List Diagram) → number d (d ∷ ds) ≡ 0
number_here d ds = by_same d d 0 (suc (number d ds)) (λ n. n ≡ 0) (λ _. refl) (λ n. absurd (n refl))

pub number_there : (d e : Diagram) (ds : List Diagram) → ¬ (d ≡ e) → number d (e ∷ ds) ≡ suc (number d ds)
number_there d e ds h = by_same d e 0 (suc (number d ds)) (λ n. n ≡ suc (number d ds)) (λ p. absurd (h p)) (λ _. refl)

pub number_within : (d : Diagram) (ds : List Diagram) → Mem d ds → number d ds < length ds
number_within d [] m = absurd (Memᴰ.not-nil m)
number_within d (e ∷ es) m =
    by_same d e 0 (suc (number d es)) (λ n. n < length (e ∷ es)) (λ _. omega arith)
    (λ h. elim (Memᴰ.cases_cons m) [ inl p ↦ absurd (h p) | inr q ↦ omega (arith, number_within d es q) ])

pub nth_number : (d : Diagram) (ds : List Diagram) → Mem d ds → nth ds (number d ds) ≡ d
nth_number d [] m = absurd (Memᴰ.not-nil m)
nth_number d (e ∷ es) m =
    by_same d e 0 (suc (number d es)) (λ n. nth (e ∷ es) n ≡ d) (λ p. sym p)
    (λ h. elim (Memᴰ.cases_cons m) [ inl p ↦ absurd (h p) | inr q ↦ nth_number d es q ])

pub number_more : (d : Diagram) (ds more : List Diagram) → Mem d ds → number d (ds ++ more) ≡ number d ds
number_more d [] more m = absurd (Memᴰ.not-nil m)
number_more d (e ∷ es) more m =
    by_same d e 0 (suc (number d es)) (λ n. number d (e ∷ (es ++ more)) ≡ n)
    (λ p. rw p (number_here e (es ++ more)))
    (λ h. number_there d e (es ++ more) h ∙ elim (Memᴰ.cases_cons m) [ inl p ↦ absurd (h p) | inr q ↦ ap suc (number_more d es more q) ])

pub mem_nth : (ds : List Diagram) (i : ℕ) → i < length ds → Mem (nth ds i) ds
mem_nth [] i h = absurd (omega arith)
mem_nth (e ∷ es) zero h = Memᴰ.head refl
mem_nth (e ∷ es) (suc i) h = Memᴰ.tail (mem_nth es i (omega arith))

pub number_nth : (ds : List Diagram) (i : ℕ) → Distinct ds → i < length ds → number (nth ds i) ds ≡ i
number_nth [] i h k = absurd (omega arith)
number_nth (e ∷ es) zero h k = number_here e es
number_nth (e ∷ es) (suc i) h k =
    let m : Mem (nth es i) es = mem_nth es i (omega arith) in
    number_there (nth es i) e es (λ p. h.0 (Memᴰ.cast (sym p) m)) ∙ ap suc (number_nth es i h.1 (omega arith))

-- Records of one diagram are one record.
pub same_record : (ds : List Diagram) (i j : ℕ) → Distinct ds → i < length ds → j < length ds → nth ds i ≡ nth ds j → i ≡ j
same_record ds i j h p q e = sym (number_nth ds i h p) ∙ ap (λ d. number d ds) e ∙ number_nth ds j h q

-- Records of nodes stand for one node only where they hold the same level and numbers.
pub alike_records : (ds : List Diagram) (l m x y x' y' : ℕ) → Distinct ds → x < length ds → y < length ds → x' < length ds → y' < length ds
    → node l (nth ds x) (nth ds y) ≡ node m (nth ds x') (nth ds y') → (l ≡ m) × (x ≡ x') × (y ≡ y')
alike_records ds l m x y x' y' h hx hy hx' hy' e =
    let level : l ≡ m = cc in
    let low : nth ds x ≡ nth ds x' = cc in
    let high : nth ds y ≡ nth ds y' = cc in
    (level, same_record ds x x' h hx hx' low, same_record ds y y' h hy hy' high)
