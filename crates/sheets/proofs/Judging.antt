-- From the checks of a record to what the record comes to. Assumes nothing.
use Rattle.std.proofs.Common.{◌≡◌, ℕ, ◌<◌, Bool, true, false, cond, ◌||◌, eqb, leb, List, [], ◌∷◌, length, get_or, Ok, Err, sym, refl, ap, ◌∙◌}
use Rattle.std.proofs.lemmas.Bool.{or_parts, leb-false}
use Rattle.diagrams.specs.Kinds.{Kind}
use Rattle.diagrams.specs.Layouts.{Layout}
use Rattle.diagrams.specs.Diagrams.{Diagram, top}
use Rattle.diagrams.specs.Reading.{bad, fine, unless, nth, two_at, four_at, kind_of, by_kind, frame_rules, node_rules, leaf_found, node_found, end_found, found}
use Rattle.diagrams.proofs.Found.{passed, passes, not_fine}
use Rattle.refusals.specs.declared.fault.SheetFault.{SheetFault}
use Rattle.sheets.specs.declared.record.Item.{Item}
use Rattle.sheets.specs.declared.record.Item.TheVariants.{Leaf, Node, End}
use Rattle.sheets.specs.Faults.{Tells}
use Rattle.sheets.specs.Frames.{item_of, Framed}
use Rattle.sheets.specs.Judged.{is_broken, judged}

-- A rule that is broken is broken whatever would come next.
pub breaks_on : {A : Type 0} (breaks : ℕ → A) (checks : List (ℕ × Bool)) (next : A) (k : ℕ) → unless bad checks fine ≡ bad k → unless breaks checks next ≡ breaks k
breaks_on breaks [] next k e = absurd (not_fine k (sym e))
breaks_on breaks (check ∷ checks) next k e = go check.1 e (breaks_on breaks checks next k)
  where
    go : (b : Bool) → cond b (bad check.0) (unless bad checks fine) ≡ bad k → (unless bad checks fine ≡ bad k → unless breaks checks next ≡ breaks k)
        → cond b (breaks check.0) (unless breaks checks next) ≡ breaks k
    go true q rest = let z : check.0 ≡ k = cc in ap breaks z
    go false q rest = rest q

-- Rules that are kept are kept whatever comes next.
pub keeps_on : {A : Type 0} (breaks : ℕ → A) (checks : List (ℕ × Bool)) (next : A) → unless bad checks fine ≡ fine → unless breaks checks next ≡ next
keeps_on breaks checks next e = passes breaks checks next (passed bad fine not_fine checks fine e).0

module _ (K : Kind) (L : Layout) (limit : ℕ) (seen : List Diagram) where
  -- A node that breaks not rule 19 has a level and two earlier records.
  pub node_placed : (l x y : ℕ) → false ≡ is_broken 19 (node_rules K L limit seen l x y) → (l < L.size) × (x < length seen) × (y < length seen)
  node_placed l x y e =
      let p = or_parts (leb L.size l || (leb (length seen) x || leb (length seen) y)) (leb (top L (nth seen x)) l || leb (top L (nth seen y)) l) (sym e) in
      let q = or_parts (leb L.size l) (leb (length seen) x || leb (length seen) y) p.0 in
      let r = or_parts (leb (length seen) x) (leb (length seen) y) q.1 in
      (leb-false L.size l q.0, leb-false (length seen) x r.0, leb-false (length seen) y r.1)

  judged_kind : (k : ℕ) (bytes : List ℕ)
      → by_kind k (leaf_found K L limit seen (four_at 4 bytes)) (node_found K L limit seen (get_or bytes 4 0) (two_at 5 bytes) (two_at 7 bytes)) (end_found K L limit seen (two_at 4 bytes))
      ≡ judged K L limit seen (item_of k bytes)
  judged_kind k bytes = go (eqb k 2) (eqb k 3)
    where
      go : (p q : Bool)
          → cond p (leaf_found K L limit seen (four_at 4 bytes))
          (cond q (node_found K L limit seen (get_or bytes 4 0) (two_at 5 bytes) (two_at 7 bytes)) (end_found K L limit seen (two_at 4 bytes)))
          ≡ judged K L limit seen (cond p (Leaf (four_at 4 bytes)) (cond q (Node (get_or bytes 4 0) (two_at 5 bytes) (two_at 7 bytes)) (End (two_at 4 bytes))))
      go true q = refl
      go false true = refl
      go false false = refl

  module _ (count place : ℕ) (bytes : List ℕ) (e : count ≡ length seen) where
    -- A record whose frame is right comes to what it holds.
    pub frame_right : (item : Item) → Framed count place bytes (Ok item) → found K L limit seen bytes ≡ judged K L limit seen item
    frame_right item h =
        keeps_on bad (frame_rules (length seen) bytes) _ (ap (λ n. unless bad (frame_rules n bytes) fine) (sym e) ∙ h.0)
        ∙ judged_kind (kind_of bytes) bytes ∙ ap (judged K L limit seen) (sym h.1)

    -- A frame's fault is the record's.
    pub frame_wrong : (f : SheetFault) → Framed count place bytes (Err f) → Tells (found K L limit seen bytes) place f
    frame_wrong f h = record {
      refused = breaks_on bad (frame_rules (length seen) bytes) _ _ (ap (λ n. unless bad (frame_rules n bytes) fine) (sym e) ∙ h.refused);
      there = h.there;
    }
