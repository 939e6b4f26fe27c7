-- Reading record after record: each step, and what it comes to. Assumes nothing.
use Rattle.std.proofs.Common.{◌≡◌, ℕ, zero, suc, ◌+◌, ◌-◌, ◌*◌, ◌^◌, ◌<◌, ◌≤◌, List, [], ◌∷◌, ◌++◌, length, get_or, take, drop, set, sym, refl, ap, ◌∙◌, subst, ap₂, inl, inr, arith}
use Rattle.std.proofs.lemmas.List.{append-nil, append_assoc, length-append, length-drop, length-take-le, get_or_append_left, get_or_at, get_or-set_same, get_or-set_other, get_or-take, drop-drop, take-append-drop, take_at, take-append-le, drop_all}
use Rattle.std.proofs.lemmas.Bool.{cases_eq}
use Rattle.std.proofs.ByRecursion.{All-get_or, All-drop, All-take, All-from_get_or}
use Rattle.diagrams.specs.Kinds.{Kind}
use Rattle.diagrams.specs.Layouts.{Layout, type_code}
use Rattle.diagrams.specs.Diagrams.{Lawful, Diagram, leaf, node, Good}
use Rattle.diagrams.specs.Sheets.{record_at, records, header, ender, by_level}
use Rattle.diagrams.specs.Reading.{bad, part, fine, unless, fault, nth, last, Children, Follow, found, head_rules, begun_with, read_sheet, head_fault, record_fault, extra_fault, number_fault}
use Rattle.diagrams.proofs.Visits.{children_more, follow_push, follow_good, follow_distinct, follow_children}
use Rattle.diagrams.proofs.Found.{Bytes, Stood, part_stood, end_stood}
use Rattle.diagrams.proofs.Whole.{record_same, records_same, begun_push, returns, settles, faults, length_by_level}
use Rattle.diagrams.proofs.Numbering.{Keeps, Strays, visiting}
use Rattle.refusals.specs.declared.fault.SheetFault.{SheetFault}
use Rattle.sheets.specs.declared.record.Item.{Item}
use Rattle.sheets.specs.declared.record.Item.TheVariants.{Leaf, Node, End}
use Rattle.sheets.specs.Faults.{Tells, failed}
use Rattle.refusals.specs.Faults.{sheet_refusal}
use Rattle.sheets.specs.Held.{Held, Listed}
use Rattle.sheets.specs.Judged.{stands_for}
use Rattle.sheets.specs.Scanned.{Begun, At, Ends, Accepted}
use Rattle.refusals.specs.Refusals.{number}

length_records : (all ds : List Diagram) → length (records all ds) ≤ 9 * length ds
length_records all [] = omega arith
length_records all (leaf v ∷ ds) = omega (arith, length-append (record_at all (leaf v)) (records all ds), length_records all ds)
length_records all (node l a b ∷ ds) = omega (arith, length-append (record_at all (node l a b)) (records all ds), length_records all ds)

pub bytes_small : (bytes : List ℕ) → ((i : ℕ) → get_or bytes i 0 < 256) → Bytes bytes
bytes_small bytes h = All-from_get_or (λ b. b < 256) bytes 0 (λ i _. h i)

-- How many bytes the record of a leaf or node has.
abbrev pub Sized : Item → ℕ → Type 0
Sized (Leaf v) size = size ≡ 8
Sized (Node l x y) size = size ≡ 9
Sized (End n) size = ⊥

module _ (K : Kind) (L : Layout) where
  pub length_header : length (header K L) ≡ 6 + 2 * L.size
  length_header =
      let marks : List ℕ = by_level L.size 0 L.mark in
      let types : List ℕ = by_level L.size 0 (λ l. type_code (L.type l)) in
      omega (arith, length-append marks types, length_by_level L.size 0 L.mark, length_by_level L.size 0 (λ l. type_code (L.type l)))

  follow_earlier : (s ds : List Diagram) (i : ℕ) → Follow K L s ds → i < length ds → Children (nth ds i) (s ++ take i ds)
  follow_earlier s [] i f h = absurd (omega arith)
  follow_earlier s (d ∷ ds) zero f h = subst (Children d) (sym (append-nil s)) f.2
  follow_earlier s (d ∷ ds) (suc i) f h =
      subst (Children (nth ds i)) (append_assoc s (d ∷ []) (take i ds)) (follow_earlier (s ++ (d ∷ [])) ds i f.3 (omega arith))

  -- Records that follow one another have their children before them.
  earlier_in : (seen : List Diagram) (i : ℕ) → Follow K L [] seen → i < length seen → Children (nth seen i) seen
  earlier_in seen i f h =
      subst (Children (nth seen i)) (take-append-drop i seen) (children_more (nth seen i) (take i seen) (drop i seen) (follow_earlier [] seen i f h))

  -- A head that breaks a rule.
  pub head_breaks : Lawful K L → (limit : ℕ) → limit < 65536 → (bytes : List ℕ) (f : SheetFault) → Tells (unless bad (head_rules K L limit bytes) fine) 0 f
      → read_sheet K L limit bytes ≡ failed f
  head_breaks lawful limit small bytes f t =
      faults K L lawful limit small bytes (number (sheet_refusal f)) 0 (head_fault t.refused) ∙ ap (fault (number (sheet_refusal f))) (sym t.there)

module _ {K : Kind} {L : Layout} (lawful : Lawful K L) {limit : ℕ} (small : limit < 65536) {bytes : List ℕ} where
  -- Before the first record.
  pub start : (list : List ℕ) → Begun K L bytes → At K L limit bytes (length (header K L)) 0 list
  start list begun = record {
    seen = [];
    follow = tt;
    fits = omega arith;
    counted = refl;
    spelled = begun ∙ ap (λ h. h ++ drop (length (header K L)) bytes) (sym (append-nil (header K L)));
    reached = ap length (sym (append-nil (header K L)));
    stands = λ i h. absurd (omega arith);
    placed = λ i h. absurd (omega arith);
  }

  module _ {list : List ℕ} {place count : ℕ} (at : At K L limit bytes place count list) (room : limit ≤ length list) where
    good_word : (i v : ℕ) → i < length at.seen → nth at.seen i ≡ leaf v → v < 2 ^ 32
    good_word i v h e =
        lawful.laws.arithmetic.word v (subst (Good K L 0) e (All-get_or (Good K L 0) at.seen i (leaf 0) h (follow_good K L [] at.seen at.follow)))

    pub held : Held bytes list at.seen
    held = record {
      stands = at.stands;
      words = good_word;
      apart = follow_distinct K L [] at.seen tt at.follow;
      earlier = λ i h. follow_earlier K L [] at.seen i at.follow h;
      few = omega (arith, at.fits);
      room = omega (arith, at.fits);
    }

    -- The records by the first entries of the list alone.
    pub listed : Listed bytes (take count list) at.seen
    listed =
        let long : length (take count list) ≡ count = length-take-le count list (omega (arith, at.counted, at.fits)) in
        record {
          held = record {
            stands = λ i h.
                let s = at.stands i h in
                (s.0, ap (λ n. drop n bytes) (get_or-take count list i 0 (omega (arith, at.counted))) ∙ s.1);
            words = good_word;
            apart = held.apart;
            earlier = held.earlier;
            few = held.few;
            room = omega (arith, at.counted);
          };
          whole = long ∙ at.counted;
        }

    pub inside : place ≤ length bytes
    inside = omega (arith, at.reached, ap length at.spelled, length-append (begun_with K L limit at.seen) (drop place bytes))

    -- Byte places stay small.
    pub near : place ≤ 600000
    near =
        omega (
          arith,
          at.reached,
          length-append (header K L) (records at.seen at.seen),
          length_header K L,
          length_records at.seen at.seen,
          at.fits,
          lawful.valid.most,
        )

    -- A record that breaks a rule.
    pub breaks : (f : SheetFault) → Tells (found K L limit at.seen (drop place bytes)) place f → read_sheet K L limit bytes ≡ failed f
    breaks f t =
        faults K L lawful limit small bytes (number (sheet_refusal f)) (length (begun_with K L limit at.seen))
        (record_fault at.seen (drop place bytes) (at.follow, at.fits) at.spelled t.refused)
        ∙ ap (fault (number (sheet_refusal f))) (sym (t.there ∙ at.reached))

    module _ (all : Bytes bytes) where
      rest_bytes : Bytes (drop place bytes)
      rest_bytes = All-drop (λ b. b < 256) place bytes all

      -- An end.
      pub ends : found K L limit at.seen (drop place bytes) ≡ fine → Ends K L limit bytes place count list
      ends q =
          let s = end_stood K L limit at.seen (drop place bytes) rest_bytes (follow_good K L [] at.seen at.follow) held.apart q in
          record {
            at = at;
            some = omega (arith, at.counted, s.1);
            ender_there = s.0 ∙ ap (λ r. ender at.seen ++ r) (drop-drop 6 place bytes);
          }

      -- A leaf or node.
      module _ (d : Diagram) (q : found K L limit at.seen (drop place bytes) ≡ part d) where
        stood : Stood K L limit at.seen (drop place bytes) d
        stood = part_stood K L limit at.seen (drop place bytes) rest_bytes (follow_good K L [] at.seen at.follow) held.apart d q

        fits_in : count < limit
        fits_in = omega (arith, at.counted, stood.room)

        onto : (size : ℕ) → size ≡ length (record_at at.seen d) → At K L limit bytes (place + size) (count + 1) (set list count place)
        onto size es =
            let seen : List Diagram = at.seen in
            let next : List Diagram = seen ++ (d ∷ []) in
            let long = length-append seen (d ∷ []) in
            let pushed = begun_push K L lawful limit small seen d at.follow stood.children in
            let further : drop (length (record_at seen d)) (drop place bytes) ≡ drop (place + size) bytes =
            drop-drop (length (record_at seen d)) place bytes ∙ ap (λ n. drop (place + n) bytes) (sym es) in
            let here : get_or (set list count place) count 0 ≡ place = get_or-set_same list count place 0 (omega (arith, fits_in)) in
            record {
              seen = next;
              follow = follow_push K L [] seen d at.follow stood.good stood.new stood.children;
              fits = omega (arith, stood.room);
              counted = omega (arith, at.counted);
              spelled = at.spelled ∙ ap (λ r. begun_with K L limit seen ++ r) (stood.spelled ∙ ap (λ r. record_at seen d ++ r) further)
                  ∙ sym (append_assoc (begun_with K L limit seen) (record_at seen d) (drop (place + size) bytes)) ∙ ap (λ r. r ++ drop (place + size) bytes) (sym pushed);
              reached = ap₂ (λ x y. x + y) at.reached es ∙ sym (length-append (begun_with K L limit seen) (record_at seen d)) ∙ ap length (sym pushed);
              stands = λ i h. elim (cases_eq i count) [
                | inl p ↦ (
                  drop (place + size) bytes,
                  ap (λ n. drop n bytes) (ap (λ j. get_or (set list count place) j 0) p ∙ here)
                      ∙ stood.spelled ∙ ap (λ r. record_at seen d ++ r) further
                      ∙ ap (λ r. r ++ drop (place + size) bytes) (sym (record_same d seen (d ∷ []) stood.children))
                      ∙ ap (λ x. record_at next x ++ drop (place + size) bytes) (sym (get_or_at seen d [] (leaf 0) i (sym (p ∙ at.counted)))),
                )
                | inr n ↦
                    let k : i < length seen = omega (arith, at.counted) in
                    let old = at.stands i k in (
                      old.0,
                      ap (λ n. drop n bytes) (get_or-set_other list count i place 0 n)
                          ∙ old.1
                          ∙ ap (λ r. r ++ old.0) (sym (record_same (nth seen i) seen (d ∷ []) (earlier_in K L seen i at.follow k)))
                          ∙ ap (λ x. record_at next x ++ old.0) (sym (get_or_append_left seen (d ∷ []) (leaf 0) i k)),
                    )
              ];
              placed = λ i h. elim (cases_eq i count) [
                | inl p ↦
                    ap (λ j. get_or (set list count place) j 0) p ∙ here ∙ at.reached
                    ∙ ap (λ r. length (header K L ++ r)) (sym (ap (records next) (take_at seen (d ∷ []) i (sym (p ∙ at.counted))) ∙ records_same seen seen (d ∷ []) (follow_children K L [] seen at.follow)))
                | inr n ↦
                    let k : i < length seen = omega (arith, at.counted) in
                    get_or-set_other list count i place 0 n ∙ at.placed i k
                    ∙ ap (λ r. length (header K L ++ r)) (sym (ap (records next) (take-append-le i seen (d ∷ []) (omega arith))
                    ∙ records_same (take i seen) seen (d ∷ []) (All-take (λ e. Children e seen) i seen (follow_children K L [] seen at.follow))))
              ];
            }

      pub item_onto : (item : Item) (size : ℕ) → Sized item size → found K L limit at.seen (drop place bytes) ≡ stands_for at.seen item
          → (count < limit) × At K L limit bytes (place + size) (count + 1) (set list count place)
      item_onto (Leaf v) size s q = (fits_in (leaf v) q, onto (leaf v) q size s)
      item_onto (Node l x y) size s q =
          let d : Diagram = node l (nth at.seen x) (nth at.seen y) in
          (fits_in d q, onto d q size s)
      item_onto (End n) size s q = absurd s

  -- Past the end.
  module _ {list : List ℕ} {place count : ℕ} (there : Ends K L limit bytes place count list) (room : limit ≤ length list) where
    open there use {at, some, ender_there}
    open at use {seen, follow, fits, counted, spelled, reached}

    all_of_it : (rest : List ℕ) → drop (place + 6) bytes ≡ rest → bytes ≡ begun_with K L limit seen ++ ender seen ++ rest
    all_of_it rest q =
        spelled ∙ ap (λ r. begun_with K L limit seen ++ r) (ender_there ∙ ap (λ r. ender seen ++ r) q)
        ∙ sym (append_assoc (begun_with K L limit seen) (ender seen) rest)

    pub extra : place + 6 < length bytes → read_sheet K L limit bytes ≡ fault 23 (place + 6)
    extra h =
        faults K L lawful limit small bytes 23 (length (begun_with K L limit seen ++ ender seen))
        (extra_fault seen (drop (place + 6) bytes) (follow, fits) (omega (arith, some, counted)) (omega (arith, length-drop (place + 6) bytes)) (all_of_it (drop (place + 6) bytes) refl))
        ∙ ap (fault 23) (length-append (begun_with K L limit seen) (ender seen) ∙ ap (λ n. n + 6) (sym reached))

    module _ (none : length bytes ≤ place + 6) where
      exactly : bytes ≡ begun_with K L limit seen ++ ender seen
      exactly = all_of_it [] (drop_all (place + 6) bytes none) ∙ append-nil (begun_with K L limit seen ++ ender seen)

      -- What the visit of the last record tells.
      pub all_right : (n : ℕ) → Keeps seen (count - 1) 0 n → Accepted K L limit bytes list count
      all_right n k =
          let full : 0 < length seen = omega (arith, some, counted) in
          let agrees = visiting.all_keep seen n full (subst (λ c. Keeps seen (c - 1) 0 n) counted k) in
          let ordered = settles K L lawful limit small seen (follow, fits) full (omega arith) in
          let good = All-get_or (Good K L 0) seen (length seen - 1) (leaf 0) (omega arith) (follow_good K L [] seen follow) in
          record {
            seen = seen;
            counted = counted;
            fits = omega (arith, counted, fits);
            comes = ap (read_sheet K L limit) (exactly ∙ ap (λ all. header K L ++ records all all ++ ender all) (sym ordered))
                ∙ returns K L lawful limit small (last seen) good (omega (arith, ap length ordered, fits));
            ordered = ordered;
            placed = at.placed;
            held = held at room;
          }

      pub one_wrong : (w : ℕ) → Strays seen (count - 1) 0 w → read_sheet K L limit bytes ≡ fault 24 (get_or list w 0)
      one_wrong w k =
          let full : 0 < length seen = omega (arith, some, counted) in
          let strays = subst (λ c. Strays seen (c - 1) 0 w) counted k in
          faults K L lawful limit small bytes 24 _ (number_fault seen w (follow, fits) strays.inside exactly (visiting.one_strays seen w full strays))
          ∙ ap (fault 24) (sym (at.placed w strays.inside))
