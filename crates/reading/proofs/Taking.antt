-- A sheet that was read, and one that found the table full, as the specification of tables has them. Assumes nothing.
use Rattle.std.proofs.Common.{◌≡◌, ℕ, ◌+◌, ◌<◌, ◌≤◌, List, [], ◌++◌, length, get_or, take, drop, Ok, Err, Result, MatchResult, sym, ap, ◌∙◌, subst, inl, inr, arith}
use mathlib.Core.List.{Memᴰ}
use Rattle.std.proofs.ByRecursion.{All-from_get_or}
use Rattle.std.proofs.lemmas.List.{take_more, take-append-drop, drop_more, get_or-take, length-take-le}
use Rattle.diagrams.specs.Kinds.{Kind}
use Rattle.diagrams.specs.Layouts.{Layout}
use Rattle.diagrams.specs.Diagrams.{Lawful, Diagram, leaf, Good}
use Rattle.diagrams.specs.Sizes.{Within}
use Rattle.diagrams.specs.Sheets.{visited, records, header, sheet}
use Rattle.diagrams.specs.Reading.{nth, last, Follow, read_sheet, drawn}
use Rattle.diagrams.proofs.Visits.{visited_some}
use Rattle.diagrams.proofs.Measures.{ordered}
use Rattle.diagrams.proofs.Whole.{accepts}
use Rattle.histories.specs.Tables.{Model, StandsFor, Outnumber}
use Rattle.histories.specs.Steps.{Gains, Fills}
use Rattle.places.specs.declared.places.Places.{Places}
use Rattle.building.specs.Work.{model}
use Rattle.reading.specs.declared.fill.NoRoom.{NoRoom}
use Rattle.reading.specs.Placing.{Ready, Filled, Crowded, FillsUp, Inside}
use Rattle.sheets.specs.Held.{Held}
use Rattle.sheets.specs.Scanned.{Accepted}
use Rattle.refusals.specs.declared.fault.TableFault.{TableFault}
use Rattle.refusals.specs.declared.fault.TableFault.TheVariants.{Full}
use Rattle.reading.specs.Reads.{Taken, CrowdedAt, Read_in}

-- What came into use by another name.
pub gains_same : {m n : Model} {P Q : Diagram → Type 0} → ((d : Diagram) → P d → Q d) → ((d : Diagram) → Q d → P d) → Gains m n P → Gains m n Q
gains_same to from g = record {
  room = g.room;
  kept = g.kept;
  started = g.started;
  gained = λ d q. g.gained d (from d q);
  only = λ h l. let o = g.only h l in (o.0, o.1, elim o.2 [ inl old ↦ inl old | inr new ↦ inr (to o.0 new) ]);
  unshared = g.unshared;
}

module _ (K : Kind) (L : Layout) (d : Diagram) (seen : List Diagram) (all : visited d [] ≡ seen) where
  pub filled_stands : (m n : Model) (h : ℕ) → Good K L 0 d → Filled m n seen h → StandsFor n d h
  filled_stands m n h good filled =
      subst (λ x. StandsFor n x h) (ap last (sym all) ∙ (ordered K L d good).2) filled.answers

  pub filled_gains : (m n : Model) (h : ℕ) → Good K L 0 d → Filled m n seen h → Gains m n (λ x. Within x d)
  filled_gains m n h good filled =
      gains_same (λ x q. ((ordered K L d good).1 x).0 (subst (Memᴰ x) (sym all) q)) (λ x q. subst (Memᴰ x) all (((ordered K L d good).1 x).1 q)) filled.gains

  pub crowded_fills : (m : Model) (i p : ℕ) → Crowded m seen i → p ≡ length (header K L ++ records seen (take i seen)) → Fills K L m d p
  crowded_fills m i p crowded place = record {
    before = take i seen;
    here = nth seen i;
    after = drop (i + 1) seen;
    all = all ∙ sym (take-append-drop i seen) ∙ ap (λ ds. take i seen ++ ds) (drop_more seen i (leaf 0) crowded.inside);
    fits = crowded.fits;
    full = subst (λ ds. Outnumber m (λ x. Memᴰ x ds)) (take_more seen i (leaf 0) crowded.inside) crowded.full;
    place = place ∙ ap (λ ds. length (header K L ++ records ds (take i seen))) (sym all);
  }

-- Bytes that were checked to be a sheet that has room in the places t.
module _ (K : Kind) (L : Layout) (ok : Lawful K L) (t : Places) (limit : ℕ) (room : limit ≡ t.capacity) (bytes list : List ℕ)
    (typed : (i : ℕ) → get_or bytes i 0 < 256) (n : ℕ) (whole : Accepted K L limit bytes list n) where
  abbrev seen : List Diagram
  seen = whole.seen

  told : (bytes ≡ sheet K L (last seen)) × Good K L 0 (last seen) × (length (visited (last seen) []) ≤ limit)
  told =
      (accepts K L limit ok (omega (arith, room, t.few)) bytes (All-from_get_or (λ b. b < 256) bytes 0 (λ i _. typed i)) (last seen)).0 whole.comes

  comes : read_sheet K L t.capacity bytes ≡ drawn (last seen)
  comes = subst (λ c. read_sheet K L c bytes ≡ drawn (last seen)) room whole.comes

  -- The byte places of its records.
  abbrev pub places_of : List ℕ
  places_of = take n list

  place_of : (i : ℕ) → i < length seen → get_or places_of i 0 ≡ get_or list i 0
  place_of i inside = get_or-take n list i 0 (omega (arith, whole.counted))

  pub whole_counted : length places_of ≡ length seen
  whole_counted = omega (arith, length-take-le n list (omega (arith, whole.counted, whole.held.room)), whole.counted)

  places_held : Held bytes places_of seen
  places_held = record {
    stands = λ i inside. rw (place_of i inside) (whole.held.stands i inside);
    words = whole.held.words;
    apart = whole.held.apart;
    earlier = whole.held.earlier;
    few = whole.held.few;
    room = omega (arith, whole_counted);
  }

  -- Its records are ready to get their places.
  pub whole_ready : Ready K L bytes places_of seen
  whole_ready = record {
    valid = ok.valid;
    held = places_held;
    follow = subst (Follow K L []) whole.ordered (ordered K L (last seen) told.1).0;
    some = subst (λ ds. 0 < length ds) whole.ordered (visited_some (last seen));
    few = omega (arith, told.2, ap length whole.ordered, room, t.few);
  }

  -- They got them, or one of them found the table full.
  module _ (u : Places) where
    pub whole_taken : (h : ℕ) → FillsUp K L seen t u (Ok h) → Taken K L t u bytes h
    whole_taken h filled = record {
      diagram = last seen;
      told = comes;
      stands = λ f p sound. filled_stands K L (last seen) seen whole.ordered (model L f p t) (model L f p u) h told.1 (filled f p sound);
      gains = λ f p sound. filled_gains K L (last seen) seen whole.ordered (model L f p t) (model L f p u) h told.1 (filled f p sound);
    }

    pub whole_crowded : (full : NoRoom) → full.number < length places_of → FillsUp K L seen t u (Err full)
        → CrowdedAt K L t u bytes (get_or places_of full.number 0)
    whole_crowded full inside crowded =
        let known : full.number < length seen = omega (arith, whole_counted) in record {
          diagram = last seen;
          told = comes;
          fills = λ f p sound.
              crowded_fills K L (last seen) seen whole.ordered (model L f p t) full.number (get_or places_of full.number 0) (crowded f p sound)
              (place_of full.number known ∙ whole.placed full.number known);
        }

    -- What the call answers, where a record without room is told by its byte place.
    pub whole_read : (r : Result ℕ NoRoom) (q : Result ℕ TableFault) → FillsUp K L seen t u r → Inside (length places_of) r
        → MatchResult r (λ h. q ≡ Ok h) (λ full. q ≡ Err (Full (get_or places_of full.number 0))) → Read_in K L t u bytes q
    whole_read (Ok h) q filled inside told = subst (Read_in K L t u bytes) (sym told) (whole_taken h filled)
    whole_read (Err full) q crowded inside told = subst (Read_in K L t u bytes) (sym told) (whole_crowded full inside crowded)
