-- The records of the places that a walk came to are those of the diagrams for which they stand. Assumes nothing.
use Rattle.std.proofs.Common.{◌≡◌, ℕ, zero, suc, ◌+◌, ◌-◌, ◌<◌, ◌≤◌, List, [], ◌∷◌, ◌++◌, length, get_or, take, sym, refl, ap, ◌∙◌, subst, ap₂, add-one, arith}
use mathlib.Core.List.Memᴰ
use Rattle.std.proofs.lemmas.List.{append-nil, append_assoc, length-append}
use Rattle.diagrams.specs.Diagrams.{Diagram, leaf, node}
use Rattle.diagrams.specs.Sizes.{itself, in_low, in_high}
use Rattle.diagrams.specs.Sheets.{visited, number, two, record_of, record_at, records}
use Rattle.diagrams.specs.Places.{Content, Stands}
use Rattle.diagrams.specs.Reading.{nth}
use Rattle.diagrams.proofs.Visits.{Mem, mem_nth, number_within}
use Rattle.diagrams.proofs.Measures.{Closed, closed_none, stays_closed}
use Rattle.places.specs.declared.places.Places.{Places}
use Rattle.places.specs.Tables.{holds}
use Rattle.walks.specs.Walks.{StandFor, Collected}
use Rattle.walks.proofs.Standing.{stand_nth, stand_length, stand_few}
use Rattle.writing.specs.Records.{Numbered, Ready, entry, entries, body}

module _ (at : ℕ → Content) where
  module _ (marks : List ℕ) where
    entries_suc : (hs : List ℕ) (i : ℕ) → i < length hs → entries at marks (take (suc i) hs) ≡ entries at marks (take i hs) ++ entry marks (at (get_or hs i 0))
    entries_suc [] i lt = absurd (omega arith)
    entries_suc (h ∷ hs) zero lt = append-nil (entry marks (at h))
    entries_suc (h ∷ hs) (suc i) lt =
        ap (λ (r : List ℕ). entry marks (at h) ++ r) (entries_suc hs i (omega arith))
        ∙ sym (append_assoc (entry marks (at h)) (entries at marks (take i hs)) (entry marks (at (get_or hs i 0))))

    -- The records of one place more.
    pub entries_more : (hs : List ℕ) (i h : ℕ) → i < length hs → h ≡ get_or hs i 0
        → entries at marks (take i hs) ++ entry marks (at h) ≡ entries at marks (take (i + 1) hs)
    entries_more hs i h lt here =
        ap (λ (g : ℕ). entries at marks (take i hs) ++ entry marks (at g)) here
        ∙ sym (entries_suc hs i lt)
        ∙ ap (λ (k : ℕ). entries at marks (take k hs)) (sym (add-one i))

    -- The records of the first places are no longer than all.
    entries_within : (hs : List ℕ) (i : ℕ) → length (entries at marks (take i hs)) ≤ length (entries at marks hs)
    entries_within hs zero = omega arith
    entries_within [] (suc i) = omega arith
    entries_within (h ∷ hs) (suc i) =
        omega (
          arith,
          entries_within hs i,
          length-append (entry marks (at h)) (entries at marks (take i hs)),
          length-append (entry marks (at h)) (entries at marks hs),
        )

    -- Where there is room for all, there is room for one more after the first.
    pub entries_room : (hs : List ℕ) (i h : ℕ) → i < length hs → h ≡ get_or hs i 0
        → length (entries at marks (take i hs)) + length (entry marks (at h)) ≤ length (entries at marks hs)
    entries_room hs i h lt here =
        omega (arith, entries_within hs (i + 1), ap length (entries_more hs i h lt here), length-append (entries at marks (take i hs)) (entry marks (at h)))

module _ (t : Places) (marks order : List ℕ) (start : Diagram) (c : Collected t marks order (visited start [])) where
  abbrev all : List Diagram
  all = visited start []

  closed : Closed all
  closed = stays_closed start [] closed_none

  few : length all ≤ 4096
  few = omega (arith, stand_few t order all c.stand c.distinct, stand_length (holds t) order all c.stand, t.few)

  numbered : (d : Diagram) (h : ℕ) → Stands (holds t) d h → Mem d all → Numbered marks h
  numbered d h p m = record { some = omega (arith, c.marked d h p m); few = omega (arith, c.marked d h p m, number_within d all m, few) }

  number_of : (d : Diagram) (h : ℕ) → Stands (holds t) d h → Mem d all → get_or marks h 0 - 1 ≡ number d all
  number_of d h p m = omega (arith, c.marked d h p m)

  -- What a place of the walk holds has its children numbered.
  ready : (d : Diagram) (h : ℕ) → Stands (holds t) d h → Mem d all → Ready marks (holds t h)
  ready (leaf v) h p m = subst (Ready marks) (sym p) tt
  ready (node l a b) h p m =
      subst (Ready marks) (sym p.2)
      (numbered a p.0 p.3 (closed (node l a b) a m (in_low (itself refl))), numbered b p.1 p.4 (closed (node l a b) b m (in_high (itself refl))))

  pub ready_at : (i h : ℕ) → i < length order → h ≡ get_or order i 0 → Ready marks (holds t h)
  ready_at i h lt here =
      let inside : i < length all = omega (arith, stand_length (holds t) order all c.stand) in
      ready (nth all i) h (subst (Stands (holds t) (nth all i)) (sym here) (stand_nth (holds t) order all i c.stand inside)) (mem_nth all i inside)

  entry_same : (d : Diagram) (h : ℕ) → Stands (holds t) d h → Mem d all → entry marks (holds t h) ≡ record_at all d
  entry_same (leaf v) h p m = ap (entry marks) p
  entry_same (node l a b) h p m =
      let low = number_of a p.0 p.3 (closed (node l a b) a m (in_low (itself refl))) in
      let high = number_of b p.1 p.4 (closed (node l a b) b m (in_high (itself refl))) in
      ap (entry marks) p.2 ∙ ap₂ (λ (x y : ℕ). record_of 3 (l ∷ two x ++ two y)) low high

  entries_some : (hs : List ℕ) (ds : List Diagram) → StandFor (holds t) hs ds → ((d : Diagram) → Mem d ds → Mem d all) → entries (holds t) marks hs ≡ records all ds
  entries_some [] [] p m = refl
  entries_some [] (d ∷ ds) p m = absurd p
  entries_some (h ∷ hs) [] p m = absurd p
  entries_some (h ∷ hs) (d ∷ ds) p m =
      ap₂ (λ (x y : List ℕ). x ++ y) (entry_same d h p.0 (m d (Memᴰ.head refl))) (entries_some hs ds p.1 (λ e k. m e (Memᴰ.tail k)))

  -- The records of the walk's places are those of the sheet.
  pub entries_same : entries (holds t) marks order ≡ body start
  entries_same = entries_some order all c.stand (λ d m. m)
