-- Whole sheets: reading follows what was written, and tells what is wrong first. Assumes nothing.
use Rattle.std.proofs.Common.{◌≡◌, ℕ, zero, suc, ◌+◌, ◌-◌, ◌*◌, ◌<◌, ◌≤◌, Bool, true, false, cond, eqb, ltb, List, [], ◌∷◌, ◌++◌, length, take, drop, sym, refl, ap, ◌∙◌, subst, ap₂, arith}
use Rattle.std.proofs.lemmas.Bool.{ltb-true, ltb-false, eqb-true, le-ltb, lt-ltb, eq-eqb, or_from, and_parts, and_from, not-false, not_from_true}
use Rattle.std.proofs.ByRecursion.{All-get_or, All-drop}
use Rattle.std.proofs.lemmas.List.{append-nil, append_assoc, length-append, get_or_append_left, drop_at, nil_from_length}
use Rattle.std.specs.List.{AllByRecursion}
use Rattle.diagrams.specs.Kinds.{Kind}
use Rattle.diagrams.specs.Layouts.{type_code, Layout}
use Rattle.diagrams.specs.Diagrams.{Lawful, Diagram, leaf, node, same, rule, Good}
use Rattle.diagrams.specs.Sizes.{Distinct}
use Rattle.diagrams.specs.Sheets.{visited, number, two, record_of, by_level, record_at, records, header, ender, sheet}
use Rattle.diagrams.specs.Reading.{Outcome, drawn, fault, Found, bad, part, fine, unless, begins, stated, nth, last, agree, proceed, Children, Follow, found, head_rules, settled, ended, onward, read_sheet, begun_with, Proper, Faulty, head_fault, record_fault, extra_fault, number_fault}
use Rattle.diagrams.specs.Written.{Returns, Accepts, Faithful, Faults}
use Rattle.diagrams.proofs.Canon.{canonical}
use Rattle.diagrams.proofs.Visits.{Mem, visited_last, visited_some, visited_follow, follow_push, follow_children, follow_distinct, follow_good, number_within, nth_number, number_more, same_record}
use Rattle.diagrams.proofs.Found.{Kept, passes, Bytes, two_told, leaf_is_found, node_is_found, end_is_found, part_stood, end_stood}

-- Records do not turn on what comes after their children.
pub record_same : (d : Diagram) (s t : List Diagram) → Children d s → record_at (s ++ t) d ≡ record_at s d
record_same (leaf v) s t c = refl
record_same (node l a b) s t c = ap₂ (λ x y. record_of 3 (l ∷ two x ++ two y)) (number_more a s t c.0) (number_more b s t c.1)

pub records_same : (ds s t : List Diagram) → AllByRecursion (λ e. Children e s) ds → records (s ++ t) ds ≡ records s ds
records_same [] s t c = refl
records_same (d ∷ ds) s t c = ap₂ (λ xs ys. xs ++ ys) (record_same d s t c.0) (records_same ds s t c.1)

records_append : (all ds es : List Diagram) → records all (ds ++ es) ≡ records all ds ++ records all es
records_append all [] es = refl
records_append all (d ∷ ds) es =
    ap (λ xs. record_at all d ++ xs) (records_append all ds es) ∙ sym (append_assoc (record_at all d) (records all ds) (records all es))

begins_append : (xs ys : List ℕ) → begins xs (xs ++ ys) ≡ true
begins_append [] ys = refl
begins_append (x ∷ xs) ys = and_from (eqb x x) (begins xs (xs ++ ys)) (eq-eqb x x refl) (begins_append xs ys)

pub begins_split : (xs bytes : List ℕ) → begins xs bytes ≡ true → bytes ≡ xs ++ drop (length xs) bytes
begins_split [] bytes h = refl
begins_split (x ∷ xs) [] h = let z : ◌≡◌ {A = ℕ} 0 1 = ap (λ c. cond c 1 0) h in absurd (omega arith)
begins_split (x ∷ xs) (b ∷ bytes) h =
    let p = and_parts (eqb x b) (begins xs bytes) h in
    ap₂ (λ y ys. y ∷ ys) (sym (eqb-true x b p.0)) (begins_split xs bytes p.1)

pub length_by_level : (k l : ℕ) (f : ℕ → ℕ) → length (by_level k l f) ≡ k
length_by_level zero l f = refl
length_by_level (suc k) l f = ap suc (length_by_level k (suc l) f)

agree_all : (ds es : List Diagram) → length ds ≤ agree ds es → (more : List Diagram) × (es ≡ ds ++ more)
agree_all [] es h = (es, refl)
agree_all (d ∷ ds) [] h = absurd (omega arith)
agree_all (d ∷ ds) (e ∷ es) h = go (same d e) h (agree_all ds es)
  where
    go : (s : Dec (d ≡ e)) → suc (length ds) ≤ elim s [ yes _ ↦ suc (agree ds es) | no _ ↦ 0 ]
        → (length ds ≤ agree ds es → (more : List Diagram) × (es ≡ ds ++ more)) → (more : List Diagram) × (e ∷ es ≡ (d ∷ ds) ++ more)
    go (yes p) k rest = let r = rest (omega arith) in (r.0, ap₂ (λ x xs. x ∷ xs) (sym p) r.1)
    go (no n) k rest = absurd (omega arith)

pub agree_self : (ds : List Diagram) → agree ds ds ≡ length ds
agree_self [] = refl
agree_self (d ∷ ds) =
    elim (same d d) as (λ s. elim s [ yes _ ↦ suc (agree ds ds) | no _ ↦ 0 ] ≡ suc (length ds)) [ yes _ ↦ ap suc (agree_self ds) | no n ↦ absurd (n refl) ]

-- A list of different diagrams that goes on after its last has come goes on with nothing.
no_more : (seen more : List Diagram) → 0 < length seen → Distinct (seen ++ more) → last (seen ++ more) ≡ last seen → more ≡ []
no_more seen more some apart e =
    let all : List Diagram = seen ++ more in
    let i : ℕ = length seen - 1 in
    let j : ℕ = length all - 1 in
    let long = length-append seen more in
    let there : nth all i ≡ nth all j = get_or_append_left seen more (leaf 0) i (omega arith) ∙ sym e in
    let equal : i ≡ j = same_record all i j apart (omega arith) (omega arith) there in
    nil_from_length more (omega arith)

module _ (K : Kind) (L : Layout) (ok : Lawful K L) where
  open ok use {laws, valid}

  record_found : (limit : ℕ) (seen : List Diagram) (d : Diagram) (rest : List ℕ) → limit < 65536 → length seen < limit
      → Good K L 0 d → ¬ Mem d seen → Children d seen → found K L limit seen (record_at seen d ++ rest) ≡ part d
  record_found limit seen (leaf v) rest small room g n c = leaf_is_found K L limit seen v rest room g (laws.arithmetic.word v g) n
  record_found limit seen (node l a b) rest small room g n c =
      let x : ℕ = number a seen in
      let y : ℕ = number b seen in
      let hx = number_within a seen c.0 in
      let hy = number_within b seen c.1 in
      let e : node l (nth seen x) (nth seen y) ≡ node l a b = ap₂ (node l) (nth_number a seen c.0) (nth_number b seen c.1) in
      node_is_found K L limit seen l x y rest room (omega arith) (omega arith) hx hy
      (subst (Good K L 0) (sym e) g) (λ m. n (subst (λ d. Mem d seen) e m))
      ∙ ap part e

  abbrev body : List ℕ
  body = by_level L.size 0 L.mark ++ by_level L.size 0 (λ l. type_code (L.type l))

  body_long : length body ≡ 2 * L.size
  body_long =
      length-append (by_level L.size 0 L.mark) (by_level L.size 0 (λ l. type_code (L.type l)))
      ∙ ap₂ (λ x y. x + y) (length_by_level L.size 0 L.mark) (length_by_level L.size 0 (λ l. type_code (L.type l)))
      ∙ omega arith

  head_kept : (limit : ℕ) (rest : List ℕ) → Kept (head_rules K L limit (header K L ++ rest))
  head_kept limit rest =
      let most = valid.most in
      let bytes : List ℕ = header K L ++ rest in
      let long = body_long in
      let longer = length-append body rest in
      let here : stated bytes ≡ 2 + 2 * L.size = two_told (suc (suc (length body))) (omega arith) ∙ omega arith in (
        or_from (ltb (length bytes) 4) (ltb (length bytes) (4 + stated bytes)) (le-ltb _ _ (omega arith)) (le-ltb _ _ (omega arith)),
        (refl, (not_from_true _ (eq-eqb _ _ here), (not_from_true _ (begins_append (header K L) rest), tt))),
      )

  module _ (limit : ℕ) (small : limit < 65536) where
    abbrev next : ℕ → List Diagram → ℕ → List ℕ → Outcome
    next = onward K L limit

    -- Reading gets past what was written.
    past : (room : ℕ) (seen : List Diagram) (d : Diagram) (place : ℕ) (rest : List ℕ) → length seen < limit → Good K L 0 d → ¬ Mem d seen
        → Children d seen → next (suc room) seen place (record_at seen d ++ rest) ≡ next room (seen ++ (d ∷ [])) (place + length (record_at seen d)) rest
    past room seen d place rest h g n c =
        let record_bytes : List ℕ = record_at seen d in
        let all : List ℕ = record_bytes ++ rest in
        ap (λ f. proceed f place
        (λ d. next room (seen ++ (d ∷ [])) (place + length (record_at seen d)) (drop (length (record_at seen d)) all))
        (ended K L limit seen (place + length (ender seen)) (drop (length (ender seen)) all)))
        (record_found limit seen d rest small h g n c)
        ∙ ap (next room (seen ++ (d ∷ [])) (place + length record_bytes)) (drop_at record_bytes rest (length record_bytes) refl)

    past_all : (room left : ℕ) (seen ds : List Diagram) (place : ℕ) (rest : List ℕ) → room ≡ left + length ds → length seen + room ≤ limit
        → Follow K L seen ds
        → next room seen place (records (seen ++ ds) ds ++ rest) ≡ next left (seen ++ ds) (place + length (records (seen ++ ds) ds)) rest
    past_all room left seen [] place rest e h f =
        let e₁ : room ≡ left = omega arith in
        let e₂ : place ≡ place + 0 = omega arith in
        let e₃ : seen ≡ seen ++ [] = sym (append-nil seen) in
        ap (λ r. next r seen place rest) e₁ ∙ ap (λ s. next left s place rest) e₃ ∙ ap (λ p. next left (seen ++ []) p rest) e₂
    past_all zero left seen (d ∷ ds) place rest e h f = absurd (omega arith)
    past_all (suc room) left seen (d ∷ ds) place rest e h f =
        let all : List Diagram = seen ++ (d ∷ ds) in
        let e₁ : record_at all d ≡ record_at seen d = record_same d seen (d ∷ ds) f.2 in
        let e₂ : (seen ++ (d ∷ [])) ++ ds ≡ all = append_assoc seen (d ∷ []) ds in
        let long = length-append (record_at all d) (records all ds) in
        ap (next (suc room) seen place) (append_assoc (record_at all d) (records all ds) rest ∙ ap (λ r. r ++ (records all ds ++ rest)) e₁)
        ∙ past room seen d place (records all ds ++ rest) (omega arith) f.0 f.1 f.2
        ∙ subst (λ s. next room (seen ++ (d ∷ [])) (place + length (record_at seen d)) (records s ds ++ rest)
        ≡ next left s (place + length (record_at seen d) + length (records s ds)) rest) e₂
        (past_all room left (seen ++ (d ∷ [])) ds (place + length (record_at seen d)) rest (omega arith)
        (omega (arith, length-append seen (d ∷ []))) f.3)
        ∙ ap (λ p. next left all p rest) (omega (arith, ap length e₁))

    -- After a head and proper records, reading is at the next record.
    pub run : (seen : List Diagram) (rest : List ℕ) → Proper K L limit seen
        → read_sheet K L limit (begun_with K L limit seen ++ rest) ≡ next (limit - length seen) seen (length (begun_with K L limit seen)) rest
    run seen rest (f, h) =
        let head : List ℕ = header K L in
        let more : List ℕ = records seen seen ++ rest in
        ap (read_sheet K L limit) (append_assoc head (records seen seen) rest)
        ∙ passes (λ k. fault k 0) (head_rules K L limit (head ++ more)) (next limit [] (length head) (drop (length head) (head ++ more))) (head_kept limit more)
        ∙ ap (next limit [] (length head)) (drop_at head more (length head) refl)
        ∙ past_all limit (limit - length seen) [] seen (length head) rest (omega arith) (omega arith) f
        ∙ ap (λ p. next (limit - length seen) seen p rest) (sym (length-append head (records seen seen)))

    pub at_end : (room : ℕ) (seen : List Diagram) (place : ℕ) (rest : List ℕ) → 0 < length seen → length seen ≤ limit
        → next room seen place (ender seen ++ rest) ≡ ended K L limit seen (place + length (ender seen)) rest
    at_end zero seen place rest h k =
        ap (λ f. proceed f place (λ _. fault 17 place) (ended K L limit seen (place + length (ender seen)) rest))
        (end_is_found K L limit seen rest h (omega arith))
    at_end (suc room) seen place rest h k =
        ap (λ f. proceed f place
        (λ d. next room (seen ++ (d ∷ [])) (place + length (record_at seen d)) (drop (length (record_at seen d)) (ender seen ++ rest)))
        (ended K L limit seen (place + length (ender seen)) rest))
        (end_is_found K L limit seen rest h (omega arith))

    pub returns : (d : Diagram) → Good K L 0 d → length (visited d []) ≤ limit → read_sheet K L limit (sheet K L d) ≡ drawn d
    returns d g h =
        let all : List Diagram = visited d [] in
        let f : Follow K L [] all = visited_follow K L 0 d [] g tt in
        ap (read_sheet K L limit) (ap (λ e. begun_with K L limit all ++ e) (sym (append-nil (ender all))))
        ∙ run all (ender all ++ []) (f, h)
        ∙ at_end (limit - length all) all (length (begun_with K L limit all)) [] (visited_some d) h
        ∙ ap (λ e. unless (λ k. fault k (length (header K L ++ records all (take (agree all (visited e [])) all)))) ((24, ltb (agree all (visited e [])) (length all)) ∷ []) (drawn e)) (visited_last d)
        ∙ ap (λ b. cond b (fault 24 (length (header K L ++ records all (take (agree all all) all)))) (drawn d)) (le-ltb (agree all all) (length all) (omega (arith, agree_self all)))

    -- What an outcome says of the bytes.
    abbrev Comes : List ℕ → Outcome → Type 0
    Comes bytes (drawn d) = (bytes ≡ sheet K L d) × Good K L 0 d × (length (visited d []) ≤ limit)
    Comes bytes (fault k place) = Faulty K L limit bytes k place

    -- Records that all have the numbers that writing the last one gives are what writing it gives.
    pub settles : (seen : List Diagram) → Proper K L limit seen → 0 < length seen → length seen ≤ agree seen (visited (last seen) [])
        → visited (last seen) [] ≡ seen
    settles seen (f, h) some k =
        let d : Diagram = last seen in
        let good : Good K L 0 d = All-get_or (Good K L 0) seen (length seen - 1) (leaf 0) (omega arith) (follow_good K L [] seen f) in
        let apart : Distinct (visited d []) = follow_distinct K L [] (visited d []) tt (visited_follow K L 0 d [] good tt) in
        let r = agree_all seen (visited d []) k in
        let none : r.0 ≡ [] = no_more seen r.0 some (subst Distinct r.1 apart) (ap last (sym r.1) ∙ visited_last d) in
        r.1 ∙ ap (λ more. seen ++ more) none ∙ append-nil seen

    settled_comes : (bytes : List ℕ) (seen : List Diagram) → Proper K L limit seen → 0 < length seen → bytes ≡ begun_with K L limit seen ++ ender seen
        → Comes bytes (settled K L limit seen)
    settled_comes bytes seen (f, h) some e = go (agree seen (visited (last seen) [])) refl (ltb (agree seen (visited (last seen) [])) (length seen)) refl
      where
        go : (right : ℕ) → agree seen (visited (last seen) []) ≡ right → (b : Bool) → ltb right (length seen) ≡ b
            → Comes bytes (cond b (fault 24 (length (header K L ++ records seen (take right seen)))) (drawn (last seen)))
        go right r true q = number_fault seen right (f, h) (ltb-true _ _ q) e r
        go right r false q =
            let s = settles seen (f, h) some (omega (arith, ltb-false _ _ q)) in (
              e ∙ ap (λ all. header K L ++ records all all ++ ender all) (sym s),
              All-get_or (Good K L 0) seen (length seen - 1) (leaf 0) (omega arith) (follow_good K L [] seen f),
              omega (arith, ap length s),
            )

    ended_comes : (bytes : List ℕ) (seen : List Diagram) (rest : List ℕ) (place : ℕ) → Proper K L limit seen → 0 < length seen
        → bytes ≡ begun_with K L limit seen ++ ender seen ++ rest → place ≡ length (begun_with K L limit seen ++ ender seen)
        → Comes bytes (ended K L limit seen place rest)
    ended_comes bytes seen rest place p some e at = go (ltb 0 (length rest)) refl
      where
        go : (b : Bool) → ltb 0 (length rest) ≡ b → Comes bytes (cond b (fault 23 place) (settled K L limit seen))
        go true q = subst (λ x. Faulty K L limit bytes 23 x) (sym at) (extra_fault seen rest p some (ltb-true _ _ q) e)
        go false q =
            let none : rest ≡ [] = nil_from_length rest (omega (arith, ltb-false _ _ q)) in
            settled_comes bytes seen p some (e ∙ ap (λ r. begun_with K L limit seen ++ ender seen ++ r) none ∙ append-nil (begun_with K L limit seen ++ ender seen))

    pub begun_push : (seen : List Diagram) (d : Diagram) → Follow K L [] seen → Children d seen
        → begun_with K L limit (seen ++ (d ∷ [])) ≡ begun_with K L limit seen ++ record_at seen d
    begun_push seen d f c =
        let all : List Diagram = seen ++ (d ∷ []) in
        ap (λ r. header K L ++ r) (
        records_append all seen (d ∷ [])
        ∙ ap₂ (λ x y. x ++ y) (records_same seen seen (d ∷ []) (follow_children K L [] seen f))
        (append-nil (record_at all d) ∙ record_same d seen (d ∷ []) c))
        ∙ sym (append_assoc (header K L) (records seen seen) (record_at seen d))

    comes : (bytes : List ℕ) (room : ℕ) (seen : List Diagram) (place : ℕ) (rest : List ℕ) → Bytes rest → length seen + room ≡ limit
        → Follow K L [] seen → bytes ≡ begun_with K L limit seen ++ rest → place ≡ length (begun_with K L limit seen)
        → Comes bytes (next room seen place rest)
    comes bytes zero seen place rest all full f e at = go (found K L limit seen rest) refl
      where
        go : (x : Found) → found K L limit seen rest ≡ x
            → Comes bytes (proceed x place (λ _. fault 17 place) (ended K L limit seen (place + length (ender seen)) (drop (length (ender seen)) rest)))
        go (bad k) q = subst (λ p. Faulty K L limit bytes k p) (sym at) (record_fault seen rest (f, omega arith) e q)
        go (part d) q =
            let s = part_stood K L limit seen rest all (follow_good K L [] seen f) (follow_distinct K L [] seen tt f) d q in absurd (omega (arith, s.room))
        go fine q =
            let s = end_stood K L limit seen rest all (follow_good K L [] seen f) (follow_distinct K L [] seen tt f) q in
            ended_comes bytes seen (drop (length (ender seen)) rest) _ (f, omega arith) s.1
            (e ∙ ap (λ r. begun_with K L limit seen ++ r) s.0 ∙ sym (append_assoc (begun_with K L limit seen) (ender seen) _))
            (ap (λ p. p + length (ender seen)) at ∙ sym (length-append (begun_with K L limit seen) (ender seen)))
    comes bytes (suc room) seen place rest all full f e at = go (found K L limit seen rest) refl (λ d. comes bytes room (seen ++ (d ∷ [])) (place + length (record_at seen d)) (drop (length (record_at seen d)) rest))
      where
        go : (x : Found) → found K L limit seen rest ≡ x
            → ((d : Diagram) → Bytes (drop (length (record_at seen d)) rest) → length (seen ++ (d ∷ [])) + room ≡ limit → Follow K L [] (seen ++ (d ∷ []))
            → bytes ≡ begun_with K L limit (seen ++ (d ∷ [])) ++ drop (length (record_at seen d)) rest
            → place + length (record_at seen d) ≡ length (begun_with K L limit (seen ++ (d ∷ [])))
            → Comes bytes (next room (seen ++ (d ∷ [])) (place + length (record_at seen d)) (drop (length (record_at seen d)) rest)))
            → Comes bytes (proceed x place
            (λ d. next room (seen ++ (d ∷ [])) (place + length (record_at seen d)) (drop (length (record_at seen d)) rest))
            (ended K L limit seen (place + length (ender seen)) (drop (length (ender seen)) rest)))
        go (bad k) q more = subst (λ p. Faulty K L limit bytes k p) (sym at) (record_fault seen rest (f, omega arith) e q)
        go (part d) q more =
            let s = part_stood K L limit seen rest all (follow_good K L [] seen f) (follow_distinct K L [] seen tt f) d q in
            let b = begun_push seen d f s.children in
            more d (All-drop (λ b. b < 256) (length (record_at seen d)) rest all) (omega (arith, length-append seen (d ∷ [])))
            (follow_push K L [] seen d f s.good s.new s.children)
            (e ∙ ap (λ r. begun_with K L limit seen ++ r) s.spelled ∙ sym (append_assoc (begun_with K L limit seen) (record_at seen d) _)
            ∙ ap (λ r. r ++ drop (length (record_at seen d)) rest) (sym b))
            (ap (λ p. p + length (record_at seen d)) at ∙ sym (length-append (begun_with K L limit seen) (record_at seen d)) ∙ ap length (sym b))
        go fine q more =
            let s = end_stood K L limit seen rest all (follow_good K L [] seen f) (follow_distinct K L [] seen tt f) q in
            ended_comes bytes seen (drop (length (ender seen)) rest) _ (f, omega arith) s.1
            (e ∙ ap (λ r. begun_with K L limit seen ++ r) s.0 ∙ sym (append_assoc (begun_with K L limit seen) (ender seen) _))
            (ap (λ p. p + length (ender seen)) at ∙ sym (length-append (begun_with K L limit seen) (ender seen)))

    -- A head that is not kept, or what comes after it.
    head_cases : (rules : List (ℕ × Bool)) (whole : Outcome) (P : Outcome → Type 0) → ((k : ℕ) → unless bad rules fine ≡ bad k → P (fault k 0)) → (Kept rules → P whole)
        → P (unless (λ k. fault k 0) rules whole)
    head_cases [] whole P p q = q tt
    head_cases (rule ∷ rules) whole P p q = go rule.1 refl (head_cases rules whole P)
      where
        go : (b : Bool) → rule.1 ≡ b → (((k : ℕ) → unless bad rules fine ≡ bad k → P (fault k 0)) → (Kept rules → P whole) → P (unless (λ k. fault k 0) rules whole))
            → P (cond b (fault rule.0 0) (unless (λ k. fault k 0) rules whole))
        go true e more = p rule.0 (ap (λ b. cond b (bad rule.0) (unless bad rules fine)) e)
        go false e more = more (λ k h. p k (ap (λ b. cond b (bad rule.0) (unless bad rules fine)) e ∙ h)) (λ h. q (e, h))

    pub tells : (bytes : List ℕ) → Bytes bytes → Comes bytes (read_sheet K L limit bytes)
    tells bytes all =
        head_cases (head_rules K L limit bytes) (next limit [] (length (header K L)) (drop (length (header K L)) bytes)) (Comes bytes)
        (λ k e. head_fault e)
        (λ kept.
        let split = begins_split (header K L) bytes (not-false _ kept.1.1.1.0) in
        comes bytes limit [] (length (header K L)) (drop (length (header K L)) bytes) (All-drop (λ b. b < 256) (length (header K L)) bytes all) (omega arith) tt
        (split ∙ ap (λ h. h ++ drop (length (header K L)) bytes) (sym (append-nil (header K L)))) (ap length (sym (append-nil (header K L)))))

    unless_bad : (rules : List (ℕ × Bool)) (k : ℕ) (whole : Outcome) → unless bad rules fine ≡ bad k → unless (λ k. fault k 0) rules whole ≡ fault k 0
    unless_bad [] k whole e = let z : ◌≡◌ {A = ℕ} 0 1 = cc in absurd (omega arith)
    unless_bad (rule ∷ rules) k whole e = go rule.1 e (unless_bad rules k whole)
      where
        go : (b : Bool) → cond b (bad rule.0) (unless bad rules fine) ≡ bad k → (unless bad rules fine ≡ bad k → unless (λ k. fault k 0) rules whole ≡ fault k 0)
            → cond b (fault rule.0 0) (unless (λ k. fault k 0) rules whole) ≡ fault k 0
        go true h more = let z : rule.0 ≡ k = cc in ap (λ n. fault n 0) z
        go false h more = more h

    at_bad : (room : ℕ) (seen : List Diagram) (place : ℕ) (rest : List ℕ) (k : ℕ) → found K L limit seen rest ≡ bad k → next room seen place rest ≡ fault k place
    at_bad zero seen place rest k e =
        ap (λ f. proceed f place (λ _. fault 17 place) (ended K L limit seen (place + length (ender seen)) (drop (length (ender seen)) rest))) e
    at_bad (suc room) seen place rest k e =
        ap (λ f. proceed f place
        (λ d. next room (seen ++ (d ∷ [])) (place + length (record_at seen d)) (drop (length (record_at seen d)) rest))
        (ended K L limit seen (place + length (ender seen)) (drop (length (ender seen)) rest))) e

    to_end : (seen : List Diagram) (rest : List ℕ) → Proper K L limit seen → 0 < length seen
        → read_sheet K L limit (begun_with K L limit seen ++ ender seen ++ rest)
        ≡ ended K L limit seen (length (begun_with K L limit seen ++ ender seen)) rest
    to_end seen rest p some =
        ap (read_sheet K L limit) (append_assoc (begun_with K L limit seen) (ender seen) rest)
        ∙ run seen (ender seen ++ rest) p
        ∙ at_end (limit - length seen) seen (length (begun_with K L limit seen)) rest some p.1
        ∙ ap (λ p. ended K L limit seen p rest) (sym (length-append (begun_with K L limit seen) (ender seen)))

    pub faults : (bytes : List ℕ) (k place : ℕ) → Faulty K L limit bytes k place → read_sheet K L limit bytes ≡ fault k place
    faults bytes k place (head_fault e) = unless_bad (head_rules K L limit bytes) k _ e
    faults bytes k place (record_fault seen rest p e q) =
        ap (read_sheet K L limit) e ∙ run seen rest p ∙ at_bad (limit - length seen) seen (length (begun_with K L limit seen)) rest k q
    faults bytes k place (extra_fault seen rest p some extra e) =
        ap (read_sheet K L limit) e ∙ to_end seen rest p some
        ∙ ap (λ b. cond b (fault 23 (length (begun_with K L limit seen ++ ender seen))) (settled K L limit seen)) (lt-ltb 0 (length rest) extra)
    faults bytes k place (number_fault seen n p wrong e q) =
        ap (read_sheet K L limit) (e ∙ sym (append-nil (begun_with K L limit seen ++ ender seen))) ∙ to_end seen [] p (omega arith)
        ∙ ap (λ r. cond (ltb r (length seen)) (fault 24 (length (header K L ++ records seen (take r seen)))) (drawn (last seen))) q
        ∙ ap (λ b. cond b (fault 24 (length (header K L ++ records seen (take n seen)))) (drawn (last seen))) (lt-ltb n (length seen) wrong)

pub writes_back : Returns
writes_back K L limit ok small = returns K L ok limit small

pub accepts : Accepts
accepts K L limit ok small bytes all d = (
  λ e. subst (Comes K L ok limit small bytes) e (tells K L ok limit small bytes all),
  λ p. ap (read_sheet K L limit) p.0 ∙ returns K L ok limit small d p.1 p.2,
)

pub first_faults : Faults
first_faults K L limit ok small bytes all k place =
    (λ e. subst (Comes K L ok limit small bytes) e (tells K L ok limit small bytes all), faults K L ok limit small bytes k place)

read_same : (a b : Diagram) → drawn a ≡ drawn b → a ≡ b
read_same a b e = cc

pub faithful : Faithful
faithful K L ok a b ga gb ha hb =
    (λ e fruit _. ap (λ d. rule K L d fruit) (same_diagram e), λ e. ap (sheet K L) (canonical K L ok a b ga gb e))
  where
    same_diagram : sheet K L a ≡ sheet K L b → a ≡ b
    same_diagram e =
        read_same a b (sym (returns K L ok 65535 (omega arith) a ga (omega arith)) ∙ ap (read_sheet K L 65535) e ∙ returns K L ok 65535 (omega arith) b gb (omega arith))
