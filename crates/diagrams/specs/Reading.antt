-- Reading a sheet: what each record stands for, or the first rule that it breaks. Assumes nothing.
use Rattle.std.specs.Prelude.{◌≡◌, ℕ, zero, suc, ◌+◌, ◌-◌, ◌*◌, ◌<◌, ◌≤◌, Bool, true, false, cond, not, ◌&&◌, ◌||◌, List, [], ◌∷◌, ◌++◌, length, take, drop, ◌==◌, nat_le, nat_lt, slice_index, slice_index_or}
use mathlib.Core.List.{Memᴰ}
use Rattle.diagrams.specs.Kinds.{Kind}
use Rattle.diagrams.specs.Layouts.{Layout}
use Rattle.diagrams.specs.Diagrams.{Diagram, leaf, node, same, spare, top, Good}
use Rattle.diagrams.specs.Sizes.{among}
use Rattle.diagrams.specs.Sheets.{visited, record_at, records, header, ender}

-- What reading comes to: a diagram, or the first fault.
pub data Outcome : Type 0 where
  drawn : Diagram → Outcome
  -- The rule's number, and the byte place.
  fault : ℕ → ℕ → Outcome

-- What one record comes to: the number of the first rule that it breaks; a leaf or node, with its diagram; or a head or end.
pub data Found : Type 0 where
  bad : ℕ → Found
  part : Diagram → Found
  fine : Found

-- The first of some checks, each a rule's number and whether it is broken, that is broken; else what comes next.
abbrev pub unless : {A : Type 0} → (ℕ → A) → List (ℕ × Bool) → A → A
unless breaks [] next = next
unless breaks (check ∷ checks) next = cond check.1 (breaks check.0) (unless breaks checks next)

-- Whether a decided statement holds.
abbrev pub holds : {P : Type 0} → Dec P → Bool
holds (yes _) = true
holds (no _) = false

-- Whether bytes begin with those of a list.
abbrev pub begins : List ℕ → List ℕ → Bool
begins [] bytes = true
begins (x ∷ xs) [] = false
begins (x ∷ xs) (b ∷ bytes) = x == b && begins xs bytes

-- The number that two bytes tell, from place i on.
abbrev pub two_at : ℕ → List ℕ → ℕ
two_at i bytes = slice_index bytes (i + 1) * 256 + slice_index bytes i

-- The number that four bytes tell, from place i on.
abbrev pub four_at : ℕ → List ℕ → ℕ
four_at i bytes = two_at (i + 2) bytes * 65536 + two_at i bytes

-- The length that a record states for its body.
abbrev pub stated : List ℕ → ℕ
stated bytes = two_at 0 bytes

-- The kind of a record.
abbrev pub kind_of : List ℕ → ℕ
kind_of bytes = two_at 2 bytes

-- Whether a record is missing or cut short.
abbrev pub cut : List ℕ → Bool
cut bytes = nat_lt (length bytes) 4 || nat_lt (length bytes) (4 + stated bytes)

-- One thing for a leaf's record, one for a node's, one for an end's.
abbrev pub by_kind : {A : Type 0} → ℕ → A → A → A → A
by_kind kind x y z = cond (kind == 2) x (cond (kind == 3) y z)

-- After the head a leaf or node, and after these an end too.
abbrev pub in_turn : ℕ → ℕ → Bool
in_turn count kind = kind == 2 || kind == 3 || (kind == 4 && nat_lt 0 count)

-- What any record has to keep that follows so many leaves and nodes.
abbrev pub frame_rules : ℕ → List ℕ → List (ℕ × Bool)
frame_rules count bytes =
    (13, cut bytes)
    ∷ (14, not (in_turn count (kind_of bytes)))
    ∷ (15, not (stated bytes == by_kind (kind_of bytes) 4 5 2)) ∷ []

-- The diagram of record number i.
abbrev pub nth : List Diagram → ℕ → Diagram
nth ds i = slice_index_or ds i (leaf 0)

-- The diagram of the last record.
abbrev pub last : List Diagram → Diagram
last ds = nth ds (length ds - 1)

-- How far two lists agree.
abbrev pub agree : List Diagram → List Diagram → ℕ
agree [] es = 0
agree (d ∷ ds) [] = 0
agree (d ∷ ds) (e ∷ es) = elim (same d e) [ yes _ ↦ suc (agree ds es) | no _ ↦ 0 ]

-- From what a record comes to: its fault, on to the next record, or to the end.
abbrev pub proceed : Found → ℕ → (Diagram → Outcome) → Outcome → Outcome
proceed (bad k) place more end = fault k place
proceed (part d) place more end = more d
proceed fine place more end = end

-- The children of a diagram stand among those seen.
abbrev pub Children : Diagram → List Diagram → Type 0
Children (leaf v) seen = Unit {0}
Children (node l a b) seen = Memᴰ a seen × Memᴰ b seen

module _ (K : Kind) (L : Layout) where
  -- Good diagrams after those of `seen`: each new, and its children before it.
  abbrev pub Follow : List Diagram → List Diagram → Type 0
  Follow seen [] = Unit {0}
  Follow seen (d ∷ ds) = Good K L 0 d × (¬ Memᴰ d seen) × Children d seen × Follow (seen ++ (d ∷ [])) ds

module _ (K : Kind) (L : Layout) (limit : ℕ) where
  -- What a record after those of `seen` has to keep besides: a leaf of a word; a node of a level and two records; an end. Earlier records
  -- stand here as their diagrams. Rules 20 and 21 judge these, which is to judge the records: no two records stand for one diagram, so
  -- records x and y have one diagram just where x and y are one number (`same_record`, and `alike_records` for nodes, in proofs/Visits).
  module _ (seen : List Diagram) where
    -- What the record of a leaf has to keep.
    abbrev pub leaf_rules : ℕ → List (ℕ × Bool)
    leaf_rules v = (17, nat_le limit (length seen)) ∷ (18, not (K.value v)) ∷ (21, holds (among (leaf v) seen)) ∷ []

    -- What the record of a node has to keep.
    abbrev pub node_rules : ℕ → ℕ → ℕ → List (ℕ × Bool)
    node_rules l x y =
        (17, nat_le limit (length seen))
        ∷ (19, nat_le L.size l || (nat_le (length seen) x || nat_le (length seen) y) || (nat_le (top L (nth seen x)) l || nat_le (top L (nth seen y)) l))
        ∷ (20, holds (same (nth seen y) (spare K (L.type l) (nth seen x))))
        ∷ (21, holds (among (node l (nth seen x) (nth seen y)) seen)) ∷ []

    -- What an end record has to keep.
    abbrev pub end_rules : ℕ → List (ℕ × Bool)
    end_rules count = (22, not (count == length seen)) ∷ []

    -- What the record of a leaf comes to.
    abbrev pub leaf_found : ℕ → Found
    leaf_found v = unless bad (leaf_rules v) (part (leaf v))

    -- What the record of a node comes to.
    abbrev pub node_found : ℕ → ℕ → ℕ → Found
    node_found l x y = unless bad (node_rules l x y) (part (node l (nth seen x) (nth seen y)))

    -- What an end record comes to.
    abbrev pub end_found : ℕ → Found
    end_found count = unless bad (end_rules count) fine

    -- What the record at the front of the bytes comes to.
    abbrev pub found : List ℕ → Found
    found bytes =
        unless bad (frame_rules (length seen) bytes)
        (by_kind (kind_of bytes) (leaf_found (four_at 4 bytes)) (node_found (slice_index bytes 4) (two_at 5 bytes) (two_at 7 bytes)) (end_found (two_at 4 bytes)))

  -- What the head record has to keep.
  abbrev pub head_rules : List ℕ → List (ℕ × Bool)
  head_rules bytes =
      (13, cut bytes)
      ∷ (14, not (kind_of bytes == 1))
      ∷ (15, not (stated bytes == 2 + 2 * L.size))
      ∷ (16, not (begins (header K L) bytes)) ∷ []

  -- Past the end: no more bytes, and every record with the number that writing the last one would give it.
  abbrev pub settled : List Diagram → Outcome
  settled seen =
      let right : ℕ = agree seen (visited (last seen) []) in
      unless (λ k. fault k (length (header K L ++ records seen (take right seen)))) ((24, nat_lt right (length seen)) ∷ []) (drawn (last seen))

  -- After an end record: no bytes may follow.
  abbrev pub ended : List Diagram → ℕ → List ℕ → Outcome
  ended seen place bytes = unless (λ k. fault k place) ((23, nat_lt 0 (length bytes)) ∷ []) (settled seen)

  -- The records from a byte place on, after those of `seen`, with room for so many more.
  abbrev pub onward : ℕ → List Diagram → ℕ → List ℕ → Outcome
  onward zero seen place bytes =
      proceed (found seen bytes) place (λ _. fault 17 place)
      (ended seen (place + length (ender seen)) (drop (length (ender seen)) bytes))
  onward (suc room) seen place bytes =
      proceed (found seen bytes) place
      (λ d. onward room (seen ++ (d ∷ [])) (place + length (record_at seen d)) (drop (length (record_at seen d)) bytes))
      (ended seen (place + length (ender seen)) (drop (length (ender seen)) bytes))

  -- Reading a sheet: the head, then record after record.
  abbrev pub read_sheet : List ℕ → Outcome
  read_sheet bytes =
      unless (λ k. fault k 0) (head_rules bytes) (onward limit [] (length (header K L)) (drop (length (header K L)) bytes))

  -- The bytes of the head and the records of `seen`.
  abbrev pub begun_with : List Diagram → List ℕ
  begun_with seen = header K L ++ records seen seen

  -- Records that follow one another as they should and have room.
  abbrev pub Proper : List Diagram → Type 0
  Proper seen = Follow K L [] seen × (length seen ≤ limit)

  -- Bytes that break rule k first, at a byte place: the head's; the next record's, after proper ones; bytes after the end; the number of record n.
  pub data Faulty (bytes : List ℕ) : ℕ → ℕ → Type 0 where
    head_fault : {k : ℕ} → unless bad (head_rules bytes) fine ≡ bad k → Faulty bytes k 0
    record_fault : {k : ℕ} (seen : List Diagram) (rest : List ℕ) → Proper seen → bytes ≡ begun_with seen ++ rest
        → found seen rest ≡ bad k → Faulty bytes k (length (begun_with seen))
    extra_fault : (seen : List Diagram) (rest : List ℕ) → Proper seen → 0 < length seen → 0 < length rest
        → bytes ≡ begun_with seen ++ ender seen ++ rest → Faulty bytes 23 (length (begun_with seen ++ ender seen))
    number_fault : (seen : List Diagram) (n : ℕ) → Proper seen → n < length seen
        → bytes ≡ begun_with seen ++ ender seen → agree seen (visited (last seen) []) ≡ n
        → Faulty bytes 24 (length (header K L ++ records seen (take n seen)))
