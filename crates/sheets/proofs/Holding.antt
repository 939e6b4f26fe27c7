-- Records that stand in the bytes, read back by number. Assumes nothing.
use Rattle.std.proofs.Common.{◌≡◌, Bool, zero-add, ℕ, zero, suc, drop-cons, take-suc, ◌+◌, ◌-◌, ◌^◌, ◌<◌, ◌≤◌, true, false, eqb, List, [], ◌∷◌, ◌++◌, length, get_or, take, drop, sym, refl, ap, ◌∙◌, subst, ap₂, inl, inr, arith}
use mathlib.Core.List.Memᴰ
use Rattle.std.proofs.lemmas.Bool.{cases_eq, eq-eqb, ne_eqb}
use Rattle.std.proofs.lemmas.List.{take_all, drop_all, length-drop, length-take-le, take-append-drop, take_rest}
use Rattle.std.proofs.lemmas.List.FromFn.{length-range_with_len, get_or-range_with_len}
use Rattle.std.specs.Bool.{MatchBool}
use Rattle.std.specs.List.{range_with_len, HoldsAt, AllWithin}
use Rattle.diagrams.specs.Kinds.{Kind}
use Rattle.diagrams.specs.Layouts.{Decomposition, shannon, positive, negative, type_code}
use Rattle.diagrams.specs.Diagrams.{Diagram, leaf, node, same, spare}
use Rattle.diagrams.specs.Sizes.{Distinct, among}
use Rattle.diagrams.specs.Sheets.{number, record_at}
use Rattle.diagrams.specs.Reading.{holds, kind_of, by_kind, nth, Children}
use Rattle.diagrams.proofs.Visits.{Mem, children_more, mem_nth, number_within, number_more, nth_number, same_record, alike_records}
use Rattle.diagrams.proofs.Found.{two_told, four_told, holds_no}
use Rattle.sheets.specs.declared.record.Item.{Item}
use Rattle.sheets.specs.declared.record.Item.TheVariants.{Leaf, Node, End}
use Rattle.sheets.specs.Frames.{item_of}
use Rattle.sheets.specs.Held.{Held, Listed, Known, drawn_after, drawn, shown, diagram_of}

-- Bytes that begin with a record are as long as its kind has it.
long : (seen : List Diagram) (d : Diagram) (rest more : List ℕ) → rest ≡ record_at seen d ++ more
    → (3 < length rest) × (4 + by_kind (kind_of rest) 4 5 2 ≤ length rest)
long seen (leaf v) rest more e = rw e (omega arith, omega arith)
long seen (node l a b) rest more e = rw e (omega arith, omega arith)

-- What is read from them is what the record holds.
reads : (seen : List Diagram) (d : Diagram) (rest more : List ℕ) → rest ≡ record_at seen d ++ more → ((v : ℕ) → d ≡ leaf v → v < 2 ^ 32)
    → Children d seen → length seen < 65536 → item_of (kind_of rest) rest ≡ shown seen d
reads seen (leaf v) rest more e words c few = rw e (ap Leaf (four_told v (words v refl)))
reads seen (node l a b) rest more e words c few =
    rw e
    (ap₂ (Node l) (two_told (number a seen) (omega (arith, number_within a seen c.0))) (two_told (number b seen) (omega (arith, number_within b seen c.1))))

module _ (bytes list : List ℕ) (seen : List Diagram) (held : Held bytes list seen) (i : ℕ) (h : i < length seen) where
  -- The bytes from record i on, as a part of them is lent.
  abbrev pub lent : List ℕ
  lent = take (length bytes - get_or list i 0) (drop (get_or list i 0) bytes)

  lent_is : lent ≡ record_at seen (nth seen i) ++ (held.stands i h).0
  lent_is = take_rest bytes (get_or list i 0) ∙ (held.stands i h).1

  pub inside : get_or list i 0 ≤ length bytes
  inside =
      let s = held.stands i h in
      omega (arith, (long seen (nth seen i) _ s.0 s.1).0, length-drop (get_or list i 0) bytes)

  pub lent_long : (3 < length lent) × (4 + by_kind (kind_of lent) 4 5 2 ≤ length lent)
  lent_long = long seen (nth seen i) lent (held.stands i h).0 lent_is

  children : Children (nth seen i) seen
  children = subst (Children (nth seen i)) (take-append-drop i seen) (children_more (nth seen i) (take i seen) (drop i seen) (held.earlier i h))

  pub lent_shows : item_of (kind_of lent) lent ≡ shown seen (nth seen i)
  lent_shows = reads seen (nth seen i) lent (held.stands i h).0 lent_is (λ v e. held.words i v h e) children held.few

  -- What record i holds tells its diagram, and its children are earlier records.
  pub drawn_back : (a : Item) → a ≡ shown seen (nth seen i) → (nth seen i ≡ diagram_of seen a) × Known i a
  drawn_back a e = go (nth seen i) (held.earlier i h) a e
    where
      inner : (d : Diagram) → Mem d (take i seen) → (nth seen (number d seen) ≡ d) × (number d seen < i)
      inner d m =
          let e : number d seen ≡ number d (take i seen) = ap (number d) (sym (take-append-drop i seen)) ∙ number_more d (take i seen) (drop i seen) m in
          let all : Mem d seen = subst (Mem d) (take-append-drop i seen) (Memᴰ.append_left (drop i seen) m) in
          (nth_number d seen all, omega (arith, number_within d (take i seen) m, length-take-le i seen (omega arith)))

      go : (d : Diagram) → Children d (take i seen) → (a : Item) → a ≡ shown seen d → (d ≡ diagram_of seen a) × Known i a
      go (leaf v) c a q = rw q (refl, tt)
      go (node l x y) c a q =
          let p = inner x c.0 in
          let r = inner y c.1 in
          rw q (ap₂ (node l) (sym p.0) (sym r.0), (p.1, r.1))

-- What is no node is a leaf.
pub leaf_back : (seen : List Diagram) (d : Diagram) (a : Item) → a ≡ shown seen d → ((l x y : ℕ) → a ≡ Node l x y → ⊥) → (v : ℕ) × (d ≡ leaf v)
leaf_back seen (leaf v) a e n = (v, refl)
leaf_back seen (node l x y) a e n = absurd (n l (number x seen) (number y seen) e)

-- The records that a list has are those that are read from it.
module _ (bytes list : List ℕ) (seen : List Diagram) (listed : Listed bytes list seen) where
  early : (k : ℕ) (d : Diagram) → k ≤ length seen → Children d (take k seen) → diagram_of (take k seen) (shown seen d) ≡ d
  early k (leaf v) h c = refl
  early k (node l a b) h c = ap₂ (node l) (child a c.0) (child b c.1)
    where
      child : (d : Diagram) → Mem d (take k seen) → nth (take k seen) (number d seen) ≡ d
      child d m =
          let same_number : number d seen ≡ number d (take k seen) = ap (number d) (sym (take-append-drop k seen)) ∙ number_more d (take k seen) (drop k seen) m in
          ap (nth (take k seen)) same_number ∙ nth_number d (take k seen) m

  from : (n k : ℕ) → k + n ≡ length seen → drawn_after bytes (take k seen) (drop k list) ≡ seen
  unfolding drawn_after
  from zero k e =
      rw (drop_all k list (omega (arith, listed.whole))) (take_all k seen (omega arith))
  from (suc n) k e =
      let h : k < length seen = omega arith in
      let there : List ℕ = drop (get_or list k 0) bytes in
      let s = listed.held.stands k h in
      let children = children bytes list seen listed.held k h in
      let told : item_of (kind_of there) there ≡ shown seen (nth seen k) = reads seen (nth seen k) there s.0 s.1 (λ v e. listed.held.words k v h e) children listed.held.few in
      let drawn_there = ap (diagram_of (take k seen)) told ∙ early k (nth seen k) (omega arith) (listed.held.earlier k h) in
      let next : take k seen ++ (diagram_of (take k seen) (item_of (kind_of there) there) ∷ []) ≡ take (suc k) seen =
      ap (λ d. take k seen ++ (d ∷ [])) drawn_there ∙ sym (take-suc seen k (leaf 0) h) in
      ap (drawn_after bytes (take k seen)) (drop-cons list k 0 (omega (arith, listed.whole))) ∙ ap (λ ds. drawn_after bytes ds (drop (suc k) list)) next ∙ from n (suc k) (omega arith)

  pub drawn_seen : drawn bytes list ≡ seen
  drawn_seen = from (length seen) 0 (omega arith)

-- Leaves and nodes by number are one where their diagrams are.
same_item : (seen : List Diagram) → Distinct seen → (a b : Item) → Known (length seen) a → Known (length seen) b → diagram_of seen a ≡ diagram_of seen b → a ≡ b
same_item seen apart (Leaf v) (Leaf w) ka kb e = let z : v ≡ w = cc in ap Leaf z
same_item seen apart (Leaf v) (Node l x y) ka kb e = let z : ◌≡◌ {A = ℕ} 0 1 = cc in absurd (omega arith)
same_item seen apart (Node k a b) (Leaf w) ka kb e = let z : ◌≡◌ {A = ℕ} 0 1 = cc in absurd (omega arith)
same_item seen apart (Node k a b) (Node l x y) ka kb e =
    let p = alike_records seen k l a b x y apart ka.0 ka.1 kb.0 kb.1 e in
    let level = p.0 in
    let low = p.1 in
    let high = p.2 in
    cc
same_item seen apart (Leaf v) (End n) ka kb e = absurd kb
same_item seen apart (Node k a b) (End n) ka kb e = absurd kb
same_item seen apart (End m) b ka kb e = absurd ka

known_more : (m n : ℕ) (a : Item) → m ≤ n → Known m a → Known n a
known_more m n (Leaf w) h k = tt
known_more m n (Node l x y) h k = (omega arith, omega arith)
known_more m n (End e) h k = k

pub holds_yes : {P : Type 0} (s : Dec P) → P → holds s ≡ true
holds_yes (yes p) q = refl
holds_yes (no n) q = absurd (n q)

-- A record that holds what is wanted has its diagram, and no other record has.
pub same_there : (seen : List Diagram) → Distinct seen → (i : ℕ) → i < length seen → (a wanted : Item) → nth seen i ≡ diagram_of seen a → Known i a
    → Known (length seen) wanted → nth seen i ≡ diagram_of seen wanted → a ≡ wanted
same_there seen apart i h a wanted e k known q = same_item seen apart a wanted (known_more i (length seen) a (omega arith) k) known (sym e ∙ q)

-- A search among all records tells whether a diagram stands there.
pub among_told : (seen : List Diagram) (d : Diagram) (r : Bool)
    → MatchBool r ((k : ℕ) × (k < length (range_with_len 0 (length seen))) × HoldsAt (λ i. nth seen i ≡ d) (range_with_len 0 (length seen)) k)
    (AllWithin (λ i. ¬ (nth seen i ≡ d)) (range_with_len 0 (length seen)) 0 (length (range_with_len 0 (length seen))))
    → r ≡ holds (among d seen)
among_told seen d true found =
    let h : found.0 < length seen = omega (arith, found.1, length-range_with_len 0 (length seen)) in
    let there : nth seen found.0 ≡ d = rw (get_or-range_with_len 0 (length seen) found.0 0 h, zero-add) at (found.2 0) in
    sym (holds_yes (among d seen) (Memᴰ.cast (sym there) (mem_nth seen found.0 h)))
among_told seen d false none =
    sym (holds_no (among d seen) (λ m.
    let h : number d seen < length seen = number_within d seen m in
    let no = none (number d seen) 0 (omega arith) (omega (arith, length-range_with_len 0 (length seen))) in
    (rw (get_or-range_with_len 0 (length seen) (number d seen) 0 h, zero-add) at no) (nth_number d seen m)))

-- On a Shannon level the drop rule goes by the children's numbers.
pub shannon_drops : (K : Kind) (t : Decomposition) (seen : List Diagram) → Distinct seen → (x y : ℕ) → x < length seen → y < length seen → type_code t ≡ 0
    → eqb x y ≡ holds (same (nth seen y) (spare K t (nth seen x)))
shannon_drops K shannon seen apart x y h k e =
    elim (cases_eq x y) [
      | inl p ↦ eq-eqb x y p ∙ sym (holds_yes (same (nth seen y) (nth seen x)) (ap (nth seen) (sym p)))
      | inr n ↦ ne_eqb x y n ∙ sym (holds_no (same (nth seen y) (nth seen x)) (λ q. n (same_record seen x y apart h k (sym q))))
    ]
shannon_drops K positive seen apart x y h k e = absurd (omega arith)
shannon_drops K negative seen apart x y h k e = absurd (omega arith)
