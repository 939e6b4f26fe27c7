-- Reading a sheet takes its step: the walk list is too short, the bytes break a rule, the table is full, or the sheet is taken. Assumes nothing.
use Rattle.std.proofs.Common.{◌≡◌, ℕ, ◌<◌, ◌≤◌, List, [], length, Ok, Err, Result, sym, refl, ap, ◌∙◌, subst, ap₂, inl, inr, arith}
use Rattle.std.specs.List.{AllByRecursion}
use Rattle.diagrams.specs.Kinds.{Kind}
use Rattle.diagrams.specs.Layouts.{Layout as Plan}
use Rattle.diagrams.specs.Diagrams.{Lawful, Diagram}
use Rattle.diagrams.specs.Sizes.{Within}
use Rattle.diagrams.specs.Reading.{read_sheet, drawn, fault, Faulty}
use Rattle.diagrams.proofs.Whole.{accepts, first_faults}
use Rattle.histories.specs.Stores.{Entries, Forgotten}
use Rattle.histories.specs.Tables.{Model, opened, capacity, StandsFor, Outnumber}
use Rattle.histories.specs.Requests.{read, in_table, Reply, gives, refused, Asked, Answer}
use Rattle.histories.specs.Steps.{wiped, layer, First, faults, PlacesStay, EntriesStay, Gains, Fills, Step}
use Rattle.histories.specs.Steps
use Rattle.histories.proofs.Sound.{Sound}
use Rattle.histories.proofs.Faults.{passes, is_due}
use Rattle.histories.proofs.StepSound.{gains_sound}
use Rattle.histories.proofs.Inner.{part_good}
use Rattle.histories.proofs.Rightness.{entries_right}
use Rattle.histories.proofs.Keeping.{gains_moves}
use Rattle.histories.proofs.Pigeons.{gains_fit}
use Rattle.histories.proofs.SheetsAccepted.{sheet_not_faulty, sheet_not_full}
use Rattle.refusals.specs.Refusals.{number}
use Rattle.layouts.specs.View.{view}
use Rattle.places.specs.declared.places.Places.{Places}
use Rattle.places.specs.Tables.{list_of}
use Rattle.refusals.specs.declared.fault.TableFault.{TableFault}
use Rattle.refusals.specs.declared.fault.TableFault.TheVariants.{Sheet, ShortList, Full}
use Rattle.refusals.specs.Faults.{sheet_refusal, sheet_place}
use Rattle.building.specs.Work.{model}
use Rattle.building.proofs.Seeing.{seen_room}
use Rattle.reading.specs.Reads.{Reads}
use Rattle.reading.proofs.Numbers.{fault_number_low}
use Rattle.tables.specs.declared.open.Open.{Open}
use Rattle.tables.specs.Models.{open_model}
use Rattle.tables.specs.Reading.{read_asked, read_answer, Comes, Left, Took}

-- Reading the bytes s on an open table, which is lent a walk list and leaves it wiped.
module _ (K : Kind) (L : Plan) (ok : Lawful K L) (m : Model) (phased : m.phase ≡ opened) (sound : Sound K L m) (s walk left : List ℕ)
    (list : left ≡ wiped (capacity m) walk) where
  -- What is asked, and what is answered.
  abbrev asks : Asked
  asks = read_asked s walk

  abbrev tells : Reply → Answer
  tells reply = record { reply = reply; walk = left; output = [] }

  -- Refused before anything is filled: all is as before.
  unread : (f p : ℕ) → First (faults K L m asks (read s)) f p → ¬ (f ≡ 25) → Step K L m asks (tells (refused f (layer f) p)) m
  unread f p first other = record {
    takes = phased;
    lent = refl;
    layout = refl;
    walk = list;
    outcome = inr (record {
      number = f;
      byte_place = p;
      first = first;
      told = refl;
      output = refl;
      phase = refl;
      places = refl;
      emptied = λ full. absurd (other full);
      entries = λ _ k. refl;
    });
  }

  pub short_step : length walk < capacity m → Step K L m asks (tells (refused 11 in_table 0)) m
  short_step short = unread 11 0 (inl (is_due short)) (λ e. omega arith)

  -- The list is long enough, and the bytes are bytes.
  module _ (long : capacity m ≤ length walk) (bytes : AllByRecursion (λ b. b < 256) s) where
    small : capacity m < 65536
    small = omega (arith, sound.most)

    long_enough : (f p : ℕ) → ¬ ((f ≡ 11) × (p ≡ 0) × (length walk < capacity m))
    long_enough = passes (λ short. omega arith)

    told_faulty : (f p : ℕ) → read_sheet K L (capacity m) s ≡ fault f p → Faulty K L (capacity m) s f p
    told_faulty f p e = (first_faults K L (capacity m) ok small s bytes f p).0 e

    told_sheet : (d : Diagram) → read_sheet K L (capacity m) s ≡ drawn d → Steps.Sheet K L m s d
    told_sheet d e = let w = (accepts K L (capacity m) ok small s bytes d).0 e in record { good = w.1; bytes = w.0; few = w.2 }

    -- The bytes break a rule.
    pub faulty_step : (f p : ℕ) → read_sheet K L (capacity m) s ≡ fault f p → Step K L m asks (tells (refused f (layer f) p)) m
    faulty_step f p e =
        let faulty = told_faulty f p e in
        unread f p (inr (long_enough, inl faulty)) (λ full. omega (arith, fault_number_low K L (capacity m) s f p faulty))

    -- A record of the sheet of d found the table full: its places are as before, and its store has forgotten.
    pub crowded_step : (d : Diagram) (p : ℕ) (n : Model) → read_sheet K L (capacity m) s ≡ drawn d → Fills K L m d p
        → n.layout ≡ m.layout → n.phase ≡ m.phase → PlacesStay m n → Forgotten n.entries → Step K L m asks (tells (refused 25 in_table p)) n
    crowded_step d p n e fills layout phase places none = record {
      takes = phased;
      lent = refl;
      layout = layout;
      walk = list;
      outcome = inr (record {
        number = 25;
        byte_place = p;
        first = inr (long_enough, inr (sheet_not_faulty K L ok m sound s d (told_sheet d e), inl (refl, (d, told_sheet d e, fills))));
        told = refl;
        output = refl;
        phase = phase;
        places = places;
        emptied = λ _. none;
        entries = λ other. absurd (other refl);
      });
    }

    -- The sheet of d was taken, and h stands for d.
    pub taken_step : (d : Diagram) (h : ℕ) (n : Model) → read_sheet K L (capacity m) s ≡ drawn d → n.layout ≡ m.layout → n.phase ≡ m.phase
        → StandsFor n d h → Gains m n (λ x. Within x d) → EntriesStay m n → Step K L m asks (tells (gives h)) n
    taken_step d h n e layout phase stands gains entries = record {
      takes = phased;
      lent = refl;
      layout = layout;
      walk = list;
      outcome = inl (record {
        faultless = (long_enough, (sheet_not_faulty K L ok m sound s d sheet, (sheet_not_full K L ok m sound s d sheet fits, tt)));
        phase = phase;
        does = (h, (refl, refl), record { diagram = d; written = sheet; answers = stands; gains = gains; entries = entries });
      });
    }
      where
        sheet : Steps.Sheet K L m s d
        sheet = told_sheet d e

        fits : ¬ Outnumber m (λ x. Within x d)
        fits =
            gains_fit
            (gains_sound m n sound (λ x. Within x d) gains (λ x. part_good ok x d sheet.good) (entries_right K L m n sound (gains_moves m n _ gains) entries))
            gains

-- The same of the places of the code, by what reading answered and how it left the table.
module _ (K : Kind) (L : Plan) (ok : Lawful K L) (f : Entries) (t : Places) (sound : Sound K L (model L f opened t)) (s walk left : List ℕ)
    (list : left ≡ wiped t.capacity walk) (bytes : AllByRecursion (λ b. b < 256) s) where
  room : capacity (model L f opened t) ≡ t.capacity
  room = seen_room L f opened t

  seen_list : left ≡ wiped (capacity (model L f opened t)) walk
  seen_list = list ∙ ap (λ c. wiped c walk) (sym room)

  -- The places and the store are as before.
  back : (u v : Places) (g : Entries) → u ≡ t → (v ≡ u) × (g ≡ f) → model L g opened v ≡ model L f opened t
  back u v g same left = ap₂ (λ g v. model L g opened v) left.1 (left.0 ∙ same)

  pub reads_step : (u v : Places) (g : Entries) (r : Result ℕ TableFault) → Reads K L t u s walk r → Left t u f v g r
      → Step K L (model L f opened t) (read_asked s walk) (read_answer r left) (model L g opened v)
  reads_step u v g (Ok h) reads end =
      let taken = reads.1 in
      subst (Step K L (model L f opened t) (read_asked s walk) (read_answer (Ok h) left)) (ap₂ (λ g v. model L g opened v) (sym end.1) (sym end.0))
      (taken_step K L ok (model L f opened t) refl sound s walk left seen_list (omega (arith, room, reads.0)) bytes taken.diagram h (model L f opened u)
      (ap (λ c. read_sheet K L c s) room ∙ taken.told) refl refl (taken.stands f opened sound) (taken.gains f opened sound) (λ k. refl))
  reads_step u v g (Err (Sheet e)) reads end =
      subst (Step K L (model L f opened t) (read_asked s walk) (read_answer (Err (Sheet e)) left)) (sym (back u v g reads.1.1 end))
      (faulty_step K L ok (model L f opened t) refl sound s walk left seen_list (omega (arith, room, reads.0)) bytes (number (sheet_refusal e)) (sheet_place e)
      (ap (λ c. read_sheet K L c s) room ∙ reads.1.0))
  reads_step u v g (Err ShortList) reads end =
      subst (Step K L (model L f opened t) (read_asked s walk) (read_answer (Err ShortList) left)) (sym (back u v g reads.1 end))
      (short_step K L ok (model L f opened t) refl sound s walk left seen_list (omega (arith, room, reads.0)))
  reads_step u v g (Err (Full place)) reads end =
      let crowded = reads.1 in
      crowded_step K L ok (model L f opened t) refl sound s walk left seen_list (omega (arith, room, reads.0)) bytes crowded.diagram place (model L g opened v)
      (ap (λ c. read_sheet K L c s) room ∙ crowded.told) (crowded.fills f opened sound) refl refl (ap list_of end.0) end.1

-- The call of the code.
pub took_step : {V S : Type 0} (K : Kind) (entries : S → Entries) (before after : Open V S) (s walk left : List ℕ) (r : Result ℕ TableFault)
    → Lawful K (view before.layout) → Sound K (view before.layout) (open_model entries before) → left ≡ wiped before.places.capacity walk
    → AllByRecursion (λ b. b < 256) s → Took K entries before after s walk r
    → Step K (view before.layout) (open_model entries before) (read_asked s walk) (read_answer r left) (open_model entries after)
took_step K entries before after s walk left r ok sound list bytes took =
    subst (λ y. Step K (view before.layout) (open_model entries before) (read_asked s walk) (read_answer r left) (model (view y) (entries after.store) opened after.places))
    (sym took.layout)
    (reads_step K (view before.layout) ok (entries before.store) before.places sound s walk left list bytes took.filled after.places (entries after.store) r
    took.reads took.left)

-- What was read tells what the bytes come to.
pub reads_comes : (K : Kind) (L : Plan) (t u : Places) (s walk : List ℕ) (r : Result ℕ TableFault) → Reads K L t u s walk r → Comes K L t.capacity s walk r
reads_comes K L t u s walk (Ok h) p = (p.0, (p.1.diagram, p.1.told))
reads_comes K L t u s walk (Err (Sheet f)) p = (p.0, p.1.0)
reads_comes K L t u s walk (Err ShortList) p = p.0
reads_comes K L t u s walk (Err (Full place)) p = (p.0, (p.1.diagram, p.1.told))
