-- Whether records have the numbers that writing gives, by a visit from the last one, which finds the first wrong number. Assumes nothing.
use Rattle.std.proofs.Common.{◌≡◌, ℕ, zero, suc, ◌-◌, ◌<◌, ◌≤◌, max, List, [], ◌∷◌, ◌++◌, length, take, drop, sym, refl, ap, ◌∙◌, arith, take-suc}
use mathlib.Core.List.Memᴰ
use Rattle.std.proofs.lemmas.List.{append_assoc, length-append, length-take-le, take_all, take-append-drop, get_or-take}
use Rattle.diagrams.specs.Diagrams.{Diagram, leaf, node, same}
use Rattle.diagrams.specs.Sizes.{Distinct}
use Rattle.diagrams.specs.Sheets.{visited, number}
use Rattle.diagrams.specs.Reading.{nth, last, agree}
use Rattle.diagrams.proofs.Visits.{Mem, by_visited, by_leaf, visited_adds, mem_nth, number_within, number_nth, number_more, same_record}
use Rattle.diagrams.proofs.Whole.{agree_self}

-- Record r is visited when the first `next` of the records have their numbers.
module _ (seen : List Diagram) (r next : ℕ) where
  -- Then the first `after` have: r is the last of them, if it was not among them before.
  pub record Keeps (after : ℕ) : Type 0 where
    pub numbered : visited (nth seen r) (take next seen) ≡ take after seen
    pub count : after ≡ max next (suc r)

  -- Or record w is the first with another number.
  pub record Strays (w : ℕ) : Type 0 where
    pub parted : agree seen (visited (nth seen r) (take next seen)) ≡ w
    pub inside : w < length seen
    pub short : w < length (visited (nth seen r) (take next seen))

-- A record that is numbered is passed by. Else its children are visited, low before high, and it has to be the next.
pub record Visiting : Type 0 where
  pub numbered_already : (seen : List Diagram) (r next : ℕ) → Distinct seen → r < next → next ≤ length seen → Keeps seen r next next
  pub leaf_next : (seen : List Diagram) (r next v : ℕ) → Distinct seen → r < length seen → nth seen r ≡ leaf v → r ≡ next → Keeps seen r next (suc r)
  pub leaf_other : (seen : List Diagram) (r next v : ℕ) → Distinct seen → r < length seen → nth seen r ≡ leaf v → next < r → Strays seen r next next
  pub node_next : (seen : List Diagram) (r next l x y m n : ℕ) → Distinct seen → r < length seen → nth seen r ≡ node l (nth seen x) (nth seen y)
      → x < r → y < r → next ≤ r → Keeps seen x next m → Keeps seen y m n → r ≡ n → Keeps seen r next (suc r)
  pub node_other : (seen : List Diagram) (r next l x y m n : ℕ) → Distinct seen → r < length seen → nth seen r ≡ node l (nth seen x) (nth seen y)
      → x < r → y < r → next ≤ r → Keeps seen x next m → Keeps seen y m n → ¬ (r ≡ n) → Strays seen r next n
  pub low_strays : (seen : List Diagram) (r next l x y w : ℕ) → Distinct seen → r < length seen → nth seen r ≡ node l (nth seen x) (nth seen y)
      → next ≤ r → Strays seen x next w → Strays seen r next w
  pub high_strays : (seen : List Diagram) (r next l x y m w : ℕ) → Distinct seen → r < length seen → nth seen r ≡ node l (nth seen x) (nth seen y)
      → next ≤ r → Keeps seen x next m → Strays seen y m w → Strays seen r next w
  -- From the last record on, with none numbered, that tells how far the records agree with what writing the last one gives.
  pub all_keep : (seen : List Diagram) (n : ℕ) → 0 < length seen → Keeps seen (length seen - 1) 0 n
      → agree seen (visited (last seen) []) ≡ length seen
  pub one_strays : (seen : List Diagram) (w : ℕ) → 0 < length seen → Strays seen (length seen - 1) 0 w
      → agree seen (visited (last seen) []) ≡ w

visited_old : (d : Diagram) (seen : List Diagram) → Mem d seen → visited d seen ≡ seen
visited_old (leaf v) seen m = by_leaf (λ all. all ≡ seen) v seen (λ _. refl) (λ n. absurd (n m))
visited_old (node l a b) seen m = by_visited (λ all. all ≡ seen) l a b seen (λ _. refl) (λ n. absurd (n m))

leaf_visited : (v : ℕ) (seen : List Diagram) → ¬ Mem (leaf v) seen → visited (leaf v) seen ≡ seen ++ (leaf v ∷ [])
leaf_visited v seen n = by_leaf (λ all. all ≡ seen ++ (leaf v ∷ [])) v seen (λ m. absurd (n m)) (λ _. refl)

node_visited : (l : ℕ) (a b : Diagram) (seen : List Diagram) → ¬ Mem (node l a b) seen
    → visited (node l a b) seen ≡ visited b (visited a seen) ++ (node l a b ∷ [])
node_visited l a b seen n = by_visited (λ all. all ≡ visited b (visited a seen) ++ (node l a b ∷ [])) l a b seen (λ m. absurd (n m)) (λ _. refl)

-- Where two lists part, they part however they go on.
agree_more : (ds es more : List Diagram) (w : ℕ) → agree ds es ≡ w → w < length ds → w < length es → agree ds (es ++ more) ≡ w
agree_more [] es more w e h k = absurd (omega arith)
agree_more (d ∷ ds) [] more w e h k = absurd (omega arith)
agree_more (d ∷ ds) (x ∷ es) more w e h k = go (same d x) e (agree_more ds es more)
  where
    go : (s : Dec (d ≡ x)) → elim s [ yes _ ↦ suc (agree ds es) | no _ ↦ 0 ] ≡ w
        → ((w : ℕ) → agree ds es ≡ w → w < length ds → w < length es → agree ds (es ++ more) ≡ w)
        → elim s [ yes _ ↦ suc (agree ds (es ++ more)) | no _ ↦ 0 ] ≡ w
    go (yes _) q rest = ap suc (rest (agree ds es) refl (omega arith) (omega arith)) ∙ q
    go (no _) q rest = q

agree_part : (ds : List Diagram) (n : ℕ) (x : Diagram) (more : List Diagram) → n < length ds → ¬ (nth ds n ≡ x) → agree ds (take n ds ++ (x ∷ more)) ≡ n
agree_part [] n x more h k = absurd (omega arith)
agree_part (d ∷ ds) zero x more h k =
    elim (same d x) as (λ s. elim s [ yes _ ↦ suc (agree ds more) | no _ ↦ 0 ] ≡ 0) [ yes p ↦ absurd (k p) | no _ ↦ refl ]
agree_part (d ∷ ds) (suc n) x more h k = go (same d d) (agree_part ds n x more (omega arith) k)
  where
    go : (s : Dec (d ≡ d)) → agree ds (take n ds ++ (x ∷ more)) ≡ n
        → elim s [ yes _ ↦ suc (agree ds (take n ds ++ (x ∷ more))) | no _ ↦ 0 ] ≡ suc n
    go (yes _) e = ap suc e
    go (no m) e = absurd (m refl)

-- In a list of different diagrams.
module _ (seen : List Diagram) (apart : Distinct seen) where
  not_before : (r next : ℕ) → r < length seen → next ≤ r → ¬ Mem (nth seen r) (take next seen)
  not_before r next h k m =
      let d : Diagram = nth seen r in
      let long : length (take next seen) ≡ next = length-take-le next seen (omega arith) in
      let e : number d seen ≡ number d (take next seen) =
      ap (number d) (sym (take-append-drop next seen)) ∙ number_more d (take next seen) (drop next seen) m in
      omega (arith, number_within d (take next seen) m, number_nth seen r apart h)

  before : (r next : ℕ) → r < next → next ≤ length seen → Mem (nth seen r) (take next seen)
  before r next h k =
      Memᴰ.cast (sym (get_or-take next seen r (leaf 0) h)) (mem_nth (take next seen) r (omega (arith, length-take-le next seen k)))

  other : (r n : ℕ) → r < length seen → n < length seen → ¬ (r ≡ n) → ¬ (nth seen n ≡ nth seen r)
  other r n h k ne e = ne (same_record seen r n apart h k (sym e))

  already : (r next : ℕ) → r < next → next ≤ length seen → Keeps seen r next next
  already r next h k = record { numbered = visited_old (nth seen r) (take next seen) (before r next h k); count = omega arith }

  -- What is visited last is next, or another.
  ends_next : (r next : ℕ) → r < length seen → next ≤ r → visited (nth seen r) (take next seen) ≡ take r seen ++ (nth seen r ∷ [])
      → Keeps seen r next (suc r)
  ends_next r next h k e = record { numbered = e ∙ sym (take-suc seen r (leaf 0) h); count = omega arith }

  ends_other : (r next n : ℕ) → r < length seen → n < r → visited (nth seen r) (take next seen) ≡ take n seen ++ (nth seen r ∷ [])
      → Strays seen r next n
  ends_other r next n h k e = record {
    parted = ap (agree seen) e ∙ agree_part seen n (nth seen r) [] (omega arith) (other r n h (omega arith) (omega arith));
    inside = omega arith;
    short = omega (arith, ap length e, length-append (take n seen) (nth seen r ∷ []), length-take-le n seen (omega arith));
  }

  leaf_goes : (r next v : ℕ) → r < length seen → next ≤ r → nth seen r ≡ leaf v → visited (nth seen r) (take next seen) ≡ take next seen ++ (nth seen r ∷ [])
  leaf_goes r next v h k e =
      rw e (leaf_visited v (take next seen) (λ m. not_before r next h k (Memᴰ.cast e m)))

  module _ (r next l x y : ℕ) (h : r < length seen) (is : nth seen r ≡ node l (nth seen x) (nth seen y)) (k : next ≤ r) where
    node_goes : visited (nth seen r) (take next seen) ≡ visited (nth seen y) (visited (nth seen x) (take next seen)) ++ (nth seen r ∷ [])
    node_goes =
        ap (λ d. visited d (take next seen)) is
        ∙ node_visited l (nth seen x) (nth seen y) (take next seen) (λ m. not_before r next h k (Memᴰ.cast is m))
        ∙ ap (λ d. visited (nth seen y) (visited (nth seen x) (take next seen)) ++ (d ∷ [])) (sym is)

    both : (m n : ℕ) → Keeps seen x next m → Keeps seen y m n → visited (nth seen r) (take next seen) ≡ take n seen ++ (nth seen r ∷ [])
    both m n p q = node_goes ∙ ap (λ s. s ++ (nth seen r ∷ [])) (ap (visited (nth seen y)) p.numbered ∙ q.numbered)

    -- What has gone astray stays so.
    astray : (w : ℕ) (s more : List Diagram) → visited (nth seen r) (take next seen) ≡ s ++ more → agree seen s ≡ w → w < length seen → w < length s
        → Strays seen r next w
    astray w s more e p i j = record {
      parted = ap (agree seen) e ∙ agree_more seen s more w p i j;
      inside = i;
      short = omega (arith, ap length e, length-append s more);
    }

    low_astray : (w : ℕ) → Strays seen x next w → Strays seen r next w
    low_astray w p =
        let s : List Diagram = visited (nth seen x) (take next seen) in
        let a = visited_adds (nth seen y) s in
        astray w s (a.0 ++ (nth seen r ∷ [])) (node_goes ∙ ap (λ t. t ++ (nth seen r ∷ [])) a.1 ∙ append_assoc s a.0 (nth seen r ∷ []))
        p.parted p.inside p.short

    high_astray : (m w : ℕ) → Keeps seen x next m → Strays seen y m w → Strays seen r next w
    high_astray m w p q =
        astray w (visited (nth seen y) (take m seen)) (nth seen r ∷ [])
        (node_goes ∙ ap (λ t. visited (nth seen y) t ++ (nth seen r ∷ [])) p.numbered) q.parted q.inside q.short

pub visiting : Visiting
visiting = record {
  numbered_already = λ seen r next d h k. already seen d r next h k;
  leaf_next = λ seen r next v d h e q. ends_next seen d r next h (omega arith) (leaf_goes seen d r next v h (omega arith) e ∙ ap (λ n. take n seen ++ (nth seen r ∷ [])) (sym q));
  leaf_other = λ seen r next v d h e q. ends_other seen d r next next h q (leaf_goes seen d r next v h (omega arith) e);
  node_next = λ seen r next l x y m n d h e _ _ k p q z. ends_next seen d r next h k (both seen d r next l x y h e k m n p q ∙ ap (λ n. take n seen ++ (nth seen r ∷ [])) (sym z));
  node_other = λ seen r next l x y m n d h e i j k p q z. ends_other seen d r next n h (omega (arith, p.count, q.count)) (both seen d r next l x y h e k m n p q);
  low_strays = λ seen r next l x y w d h e k p. low_astray seen d r next l x y h e k w p;
  high_strays = λ seen r next l x y m w d h e k p q. high_astray seen d r next l x y h e k m w p q;
  all_keep = λ seen n h p. ap (agree seen) (p.numbered ∙ take_all n seen (omega (arith, p.count))) ∙ agree_self seen;
  one_strays = λ seen w h p. p.parted;
}
