-- What is written is all that is reached; how long a sheet is; its bytes. Assumes nothing.
use Rattle.std.proofs.Common.{◌≡◌, ℕ, zero, suc, ◌+◌, ◌*◌, ◌/◌, ◌%◌, ◌<◌, ◌⊎◌, ◌↔◌, List, [], ◌∷◌, ◌++◌, length, sym, refl, ap, ◌∙◌, subst, inl, inr, arith}
use mathlib.Core.List.Memᴰ
use Rattle.std.proofs.lemmas.Nat.{mod_below}
use Rattle.std.proofs.lemmas.List.{append-nil, append_assoc, length-append}
use Rattle.std.proofs.ByRecursion.{All-append}
use Rattle.std.specs.List.{AllByRecursion}
use Rattle.diagrams.specs.Kinds.{Kind}
use Rattle.diagrams.specs.Layouts.{Decomposition, shannon, positive, negative, type_code, Layout}
use Rattle.diagrams.specs.Diagrams.{Diagram, leaf, node, Good}
use Rattle.diagrams.specs.Sizes.{among, Distinct, Within, itself, in_low, in_high, nodes, extent}
use Rattle.diagrams.specs.Sheets.{visited, number, two, four, record_of, by_level, record_at, records, header, ender, sheet}
use Rattle.diagrams.specs.Written.{Ordered, Measured, Spelled, unseen, LowFirst}
use Rattle.diagrams.proofs.Counting.{as_many}
use Rattle.diagrams.proofs.Visits.{Mem, by_among, by_visited, by_leaf, visited_has, visited_keeps, visited_last, visited_follow, follow_distinct, follow_good}
use Rattle.diagrams.proofs.Whole.{length_by_level}

-- The parts of a part are parts.
pub part_part : {x y : Diagram} {d : Diagram} → Within x y → Within y d → Within x d
part_part {x} p (itself e) = subst (Within x) e p
part_part p (in_low q) = in_low (part_part p q)
part_part p (in_high q) = in_high (part_part p q)

pub visited_parts : (d x : Diagram) (seen : List Diagram) → Mem x (visited d seen) → Mem x seen ⊎ Within x d
visited_parts (leaf v) x seen =
    by_leaf (λ all. Mem x all → Mem x seen ⊎ Within x (leaf v)) v seen (λ _ m. inl m)
    (λ _ m. elim (Memᴰ.append_cases seen m) [ inl p ↦ inl p | inr q ↦ inr (itself (Memᴰ.eq_of_singleton q)) ])
visited_parts (node l a b) x seen =
    by_visited (λ all. Mem x all → Mem x seen ⊎ Within x (node l a b)) l a b seen (λ _ m. inl m)
    (λ _ m. elim (Memᴰ.append_cases (visited b (visited a seen)) m) [
      | inl p ↦ elim (visited_parts b x (visited a seen) p) [
        | inl q ↦ elim (visited_parts a x seen q) [ inl r ↦ inl r | inr w ↦ inr (in_low w) ]
        | inr w ↦ inr (in_high w)
      ]
      | inr q ↦ inr (itself (Memᴰ.eq_of_singleton q))
    ])

-- With a diagram all its parts stand in the list.
abbrev pub Closed : List Diagram → Type 0
Closed seen = (e x : Diagram) → Mem e seen → Within x e → Mem x seen

pub closed_none : Closed []
closed_none e x m = absurd (Memᴰ.not-nil m)

closed_visited : (d : Diagram) (seen : List Diagram) → Closed seen → ((x : Diagram) → Within x d → Mem x (visited d seen)) → Closed (visited d seen)
closed_visited d seen c parts e x m p =
    elim (visited_parts d e seen m) [ inl q ↦ visited_keeps d x seen (c e x q p) | inr q ↦ parts x (part_part p q) ]

parts_visited : (d : Diagram) (seen : List Diagram) → Closed seen → (x : Diagram) → Within x d → Mem x (visited d seen)
parts_visited (leaf v) seen c x (itself e) = Memᴰ.cast e (visited_has (leaf v) seen)
parts_visited (node l a b) seen c x (itself e) = Memᴰ.cast e (visited_has (node l a b) seen)
parts_visited (node l a b) seen c x (in_low p) =
    by_visited (Mem x) l a b seen (λ m. c (node l a b) x m (in_low p))
    (λ _. Memᴰ.append_left (node l a b ∷ []) (visited_keeps b x (visited a seen) (parts_visited a seen c x p)))
parts_visited (node l a b) seen c x (in_high p) =
    by_visited (Mem x) l a b seen (λ m. c (node l a b) x m (in_high p))
    (λ _. Memᴰ.append_left (node l a b ∷ []) (parts_visited b (visited a seen) (closed_visited a seen c (parts_visited a seen c)) x p))

pub reached : (d x : Diagram) → Mem x (visited d []) ↔ Within x d
reached d x =
    (λ m. elim (visited_parts d x [] m) [ inl q ↦ absurd (Memᴰ.not-nil q) | inr p ↦ p ], parts_visited d [] closed_none x)

pub stays_closed : (d : Diagram) (seen : List Diagram) → Closed seen → Closed (visited d seen)
stays_closed d seen c = closed_visited d seen c (parts_visited d seen c)

-- By cases whether the first of a list is seen.
by_unseen : (P : List Diagram → Type 0) (seen : List Diagram) (d : Diagram) (ds : List Diagram) → (Mem d seen → P (unseen seen ds))
    → (¬ Mem d seen → P (d ∷ unseen seen ds)) → P (unseen seen (d ∷ ds))
by_unseen P seen d ds p q = by_among d seen (unseen seen ds) (d ∷ unseen seen ds) P p q

unseen_old : (seen : List Diagram) (d : Diagram) (ds : List Diagram) → Mem d seen → unseen seen (d ∷ ds) ≡ unseen seen ds
unseen_old seen d ds m = by_unseen (λ all. all ≡ unseen seen ds) seen d ds (λ _. refl) (λ n. absurd (n m))

unseen_new : (seen : List Diagram) (d : Diagram) (ds : List Diagram) → ¬ Mem d seen → unseen seen (d ∷ ds) ≡ d ∷ unseen seen ds
unseen_new seen d ds n = by_unseen (λ all. all ≡ d ∷ unseen seen ds) seen d ds (λ m. absurd (n m)) (λ _. refl)

unseen_none : (seen ds : List Diagram) → ((x : Diagram) → Mem x ds → Mem x seen) → unseen seen ds ≡ []
unseen_none seen [] h = refl
unseen_none seen (d ∷ ds) h = unseen_old seen d ds (h d (Memᴰ.head refl)) ∙ unseen_none seen ds (λ x m. h x (Memᴰ.tail m))

unseen_append : (seen ds es : List Diagram) → unseen seen (ds ++ es) ≡ unseen seen ds ++ unseen seen es
unseen_append seen [] es = refl
unseen_append seen (d ∷ ds) es =
    elim (among d seen) [
      | yes m ↦ unseen_old seen d (ds ++ es) m ∙ unseen_append seen ds es ∙ ap (λ r. r ++ unseen seen es) (sym (unseen_old seen d ds m))
      | no n ↦ unseen_new seen d (ds ++ es) n
          ∙ ap (λ r. d ∷ r) (unseen_append seen ds es)
          ∙ ap (λ r. r ++ unseen seen es) (sym (unseen_new seen d ds n))
    ]

-- Not among all is not among the one part, then not among the other.
unseen_both : (all s t : List Diagram) → ((x : Diagram) → Mem x all ↔ (Mem x s ⊎ Mem x t)) → (ds : List Diagram) → unseen all ds ≡ unseen s (unseen t ds)
unseen_both all s t h [] = refl
unseen_both all s t h (d ∷ ds) =
    elim (among d t) [
      | yes m ↦ unseen_old all d ds ((h d).1 (inr m)) ∙ unseen_both all s t h ds ∙ ap (unseen s) (sym (unseen_old t d ds m))
      | no n ↦ elim (among d s) [
        | yes m ↦ unseen_old all d ds ((h d).1 (inl m)) ∙ unseen_both all s t h ds ∙ sym (unseen_old s d (unseen t ds) m)
        | no k ↦ unseen_new all d ds (λ m. elim ((h d).0 m) [ inl p ↦ k p | inr q ↦ n q ])
            ∙ ap (λ r. d ∷ r) (unseen_both all s t h ds)
            ∙ sym (unseen_new s d (unseen t ds) k)
      ] ∙ ap (unseen s) (sym (unseen_new t d ds n))
    ]

visited_both : (d : Diagram) (seen : List Diagram) → Closed seen → (x : Diagram) → Mem x (visited d seen) ↔ (Mem x seen ⊎ Mem x (visited d []))
visited_both d seen c x = (
  (λ m. elim (visited_parts d x seen m) [ inl p ↦ inl p | inr q ↦ inr ((reached d x).1 q) ]),
  (λ m. elim m [ inl p ↦ visited_keeps d x seen p | inr q ↦ parts_visited d seen c x ((reached d x).0 q) ]),
)

-- What a diagram adds is what its own sheet has, but for what is seen.
visited_unseen : (d : Diagram) (seen : List Diagram) → Closed seen → visited d seen ≡ seen ++ unseen seen (visited d [])
visited_unseen (leaf v) seen c =
    by_leaf (λ all. all ≡ seen ++ unseen seen (leaf v ∷ [])) v seen
    (λ m. sym (append-nil seen) ∙ ap (λ r. seen ++ r) (sym (unseen_old seen (leaf v) [] m)))
    (λ n. ap (λ r. seen ++ r) (sym (unseen_new seen (leaf v) [] n)))
visited_unseen (node l a b) seen c =
    let d : Diagram = node l a b in
    let low : List Diagram = visited a [] in
    let high : List Diagram = unseen low (visited b []) in
    let mid : List Diagram = visited a seen in
    let own : visited b low ≡ low ++ high = visited_unseen b low (stays_closed a [] closed_none) in
    let children : visited b mid ≡ seen ++ unseen seen (visited b low) =
    visited_unseen b mid (stays_closed a seen c)
    ∙ ap (λ r. mid ++ r) (unseen_both mid seen low (visited_both a seen c) (visited b []))
    ∙ ap (λ r. r ++ unseen seen high) (visited_unseen a seen c)
    ∙ append_assoc seen (unseen seen low) (unseen seen high)
    ∙ ap (λ r. seen ++ r) (sym (unseen_append seen low high) ∙ ap (unseen seen) (sym own)) in
    by_visited (λ all. all ≡ seen ++ unseen seen (visited d [])) l a b seen
    (λ m. sym (append-nil seen) ∙ ap (λ r. seen ++ r) (sym (unseen_none seen (visited d []) (λ x k. c d x m ((reached d x).0 k)))))
    (λ n. ap (λ r. r ++ (d ∷ [])) children
    ∙ append_assoc seen (unseen seen (visited b low)) (d ∷ [])
    ∙ ap (λ r. seen ++ r)
    (ap (λ r. unseen seen (visited b low) ++ r) (sym (unseen_new seen d [] n)) ∙ sym (unseen_append seen (visited b low) (d ∷ []))))

pub low_first : LowFirst
low_first l a b = ap (λ all. all ++ (node l a b ∷ [])) (visited_unseen b (visited a []) (stays_closed a [] closed_none))

pub ordered : Ordered
ordered K L d g = (visited_follow K L 0 d [] g tt, reached d, visited_last d)

-- The nodes of a list.
unfoldable pub branches : List Diagram → List Diagram
branches [] = []
branches (leaf v ∷ ds) = branches ds
branches (node l a b ∷ ds) = node l a b ∷ branches ds

branches_within : (ds : List Diagram) (x : Diagram) → Mem x (branches ds) → Mem x ds
unfolding branches
branches_within [] x m = m
branches_within (leaf v ∷ ds) x m = Memᴰ.tail (branches_within ds x m)
branches_within (node l a b ∷ ds) x m =
    elim (Memᴰ.cases_cons m) [ inl e ↦ Memᴰ.head e | inr q ↦ Memᴰ.tail (branches_within ds x q) ]

leaf_node : (v l : ℕ) (a b : Diagram) → ¬ (node l a b ≡ leaf v)
leaf_node v l a b e = let z : ◌≡◌ {A = ℕ} 0 1 = cc in omega arith

within_branches : (ds : List Diagram) (l : ℕ) (a b : Diagram) → Mem (node l a b) ds → Mem (node l a b) (branches ds)
unfolding branches
within_branches [] l a b m = m
within_branches (leaf v ∷ ds) l a b m =
    elim (Memᴰ.cases_cons m) [ inl e ↦ absurd (leaf_node v l a b e) | inr q ↦ within_branches ds l a b q ]
within_branches (node k c d ∷ ds) l a b m =
    elim (Memᴰ.cases_cons m) [ inl e ↦ Memᴰ.head e | inr q ↦ Memᴰ.tail (within_branches ds l a b q) ]

no_leaf : (ds : List Diagram) (v : ℕ) → ¬ Mem (leaf v) (branches ds)
unfolding branches
no_leaf [] v m = Memᴰ.not-nil m
no_leaf (leaf w ∷ ds) v m = no_leaf ds v m
no_leaf (node l a b ∷ ds) v m = elim (Memᴰ.cases_cons m) [ inl e ↦ leaf_node v l a b (sym e) | inr q ↦ no_leaf ds v q ]

branches_distinct : (ds : List Diagram) → Distinct ds → Distinct (branches ds)
unfolding branches
branches_distinct [] h = tt
branches_distinct (leaf v ∷ ds) h = branches_distinct ds h.1
branches_distinct (node l a b ∷ ds) h = (λ m. h.0 (branches_within ds (node l a b) m), branches_distinct ds h.1)

nodes_parts : (d x : Diagram) → Mem x (nodes d) → Within x d
nodes_parts (leaf v) x m = absurd (Memᴰ.not-nil m)
nodes_parts (node l a b) x m =
    elim (Memᴰ.append_cases (node l a b ∷ nodes a) m) [
      | inl p ↦ elim (Memᴰ.cases_cons p) [ inl e ↦ itself e | inr q ↦ in_low (nodes_parts a x q) ]
      | inr p ↦ in_high (nodes_parts b x p)
    ]

no_leaf_nodes : (d : Diagram) (v : ℕ) → ¬ Mem (leaf v) (nodes d)
no_leaf_nodes (leaf w) v m = Memᴰ.not-nil m
no_leaf_nodes (node l a b) v m =
    elim (Memᴰ.append_cases (node l a b ∷ nodes a) m) [
      | inl p ↦ elim (Memᴰ.cases_cons p) [ inl e ↦ leaf_node v l a b (sym e) | inr q ↦ no_leaf_nodes a v q ]
      | inr p ↦ no_leaf_nodes b v p
    ]

parts_nodes : (d : Diagram) (l : ℕ) (a b : Diagram) → Within (node l a b) d → Mem (node l a b) (nodes d)
parts_nodes (leaf v) l a b (itself e) = absurd (leaf_node v l a b e)
parts_nodes (node k c d) l a b (itself e) = Memᴰ.head e
parts_nodes (node k c d) l a b (in_low p) = Memᴰ.append_left (nodes d) (Memᴰ.tail (parts_nodes c l a b p))
parts_nodes (node k c d) l a b (in_high p) = Memᴰ.append_right (node k c d ∷ nodes c) (parts_nodes d l a b p)

-- The nodes among what is visited from a diagram are as many as its size.
pub branches_extent : (d : Diagram) → Distinct (visited d []) → length (branches (visited d [])) ≡ extent d
branches_extent d h = as_many (nodes d) (branches (visited d [])) (branches_distinct (visited d []) h) there back
  where
    there : (x : Diagram) → Mem x (branches (visited d [])) → Mem x (nodes d)
    there (leaf v) m = absurd (no_leaf (visited d []) v m)
    there (node l a b) m = parts_nodes d l a b ((reached d (node l a b)).0 (branches_within (visited d []) (node l a b) m))

    back : (x : Diagram) → Mem x (nodes d) → Mem x (branches (visited d []))
    back (leaf v) m = absurd (no_leaf_nodes d v m)
    back (node l a b) m = within_branches (visited d []) l a b ((reached d (node l a b)).1 (nodes_parts d (node l a b) m))

length_records : (all ds : List Diagram) → length (records all ds) ≡ 8 * length ds + length (branches ds)
unfolding branches
length_records all [] = refl
length_records all (leaf v ∷ ds) = omega (arith, length-append (record_at all (leaf v)) (records all ds), length_records all ds)
length_records all (node l a b ∷ ds) = omega (arith, length-append (record_at all (node l a b)) (records all ds), length_records all ds)

-- The length of a sheet, whether its diagram is good or not.
pub sheet_length : (K : Kind) (L : Layout) (d : Diagram) → Distinct (visited d []) → length (sheet K L d) ≡ 12 + 2 * L.size + 8 * length (visited d []) + extent d
sheet_length K L d apart =
    let all : List Diagram = visited d [] in
    let marks : List ℕ = by_level L.size 0 L.mark in
    let types : List ℕ = by_level L.size 0 (λ l. type_code (L.type l)) in
    omega (
      arith,
      length-append (header K L ++ records all all) (ender all),
      length-append (header K L) (records all all),
      length-append marks types,
      length_by_level L.size 0 L.mark,
      length_by_level L.size 0 (λ l. type_code (L.type l)),
      length_records all all,
      branches_extent d apart,
    )

pub measured : Measured
measured K L d g = sheet_length K L d (follow_distinct K L [] (visited d []) tt (visited_follow K L 0 d [] g tt))

abbrev Small : List ℕ → Type 0
Small = AllByRecursion (λ b. b < 256)

small_two : (n : ℕ) → Small (two n)
small_two n = (mod_below n 256 (omega arith), (mod_below (n / 256) 256 (omega arith), tt))

small_append : (xs ys : List ℕ) → Small xs → Small ys → Small (xs ++ ys)
small_append xs ys p q = All-append (λ b. b < 256) xs ys p q

small_record : (kind : ℕ) (body : List ℕ) → Small body → Small (record_of kind body)
small_record kind body h = small_append (two (length body) ++ two kind) body (small_append (two (length body)) (two kind) (small_two _) (small_two kind)) h

small_by_level : (k l n : ℕ) (f : ℕ → ℕ) → l + k ≡ n → ((i : ℕ) → i < n → f i < 256) → Small (by_level k l f)
small_by_level zero l n f e h = tt
small_by_level (suc k) l n f e h = (h l (omega arith), small_by_level k (suc l) n f (omega arith) h)

small_type : (t : Decomposition) → type_code t < 256
small_type shannon = omega arith
small_type positive = omega arith
small_type negative = omega arith

pub spelled : Spelled
spelled K L ok d g =
    small_append (header K L ++ records (visited d []) (visited d [])) (ender (visited d []))
    (small_append (header K L) (records (visited d []) (visited d [])) small_head
    (small_records (visited d []) (visited d []) (follow_good K L [] (visited d []) (visited_follow K L 0 d [] g tt))))
    (small_record 4 (two (length (visited d []))) (small_two _))
  where
    small_head : Small (header K L)
    small_head =
        let s = ok.valid in
        small_record 1 (K.code ∷ L.size ∷ by_level L.size 0 L.mark ++ by_level L.size 0 (λ l. type_code (L.type l))) (
          ok.laws.code_byte,
          (
            omega (arith, s.most),
            small_append (by_level L.size 0 L.mark) (by_level L.size 0 (λ l. type_code (L.type l)))
                (small_by_level L.size 0 L.size L.mark (omega arith) (λ i h. omega (arith, s.most, s.mark_within i h)))
                (small_by_level L.size 0 L.size (λ l. type_code (L.type l)) (omega arith) (λ i h. small_type (L.type i))),
          ),
        )

    small_at : (all : List Diagram) (e : Diagram) → Good K L 0 e → Small (record_at all e)
    small_at all (leaf v) h = small_record 2 (four v) (small_append (two (v % 65536)) (two (v / 65536)) (small_two _) (small_two _))
    small_at all (node l a b) h =
        small_record 3 (l ∷ two (number a all) ++ two (number b all))
        (omega (arith, ok.valid.most), small_append (two (number a all)) (two (number b all)) (small_two _) (small_two _))

    small_records : (all ds : List Diagram) → AllByRecursion (Good K L 0) ds → Small (records all ds)
    small_records all [] h = tt
    small_records all (e ∷ es) h = small_append (record_at all e) (records all es) (small_at all e h.0) (small_records all es h.1)
