-- Sizes and writing take their steps, on an open and on a released table. Assumes nothing.
use Rattle.std.proofs.Common.{◌≡◌, ℕ, ◌<◌, List, [], length, Ok, Err, Result, sym, refl, ap, subst, inl, inr, arith}
use Rattle.diagrams.specs.Kinds.{Kind}
use Rattle.diagrams.specs.Layouts.{Layout as Plan}
use Rattle.diagrams.specs.Diagrams.{Diagram}
use Rattle.diagrams.specs.Sheets.{sheet}
use Rattle.histories.specs.Stores.{Entries}
use Rattle.histories.specs.Tables.{Phase, Model, Live, StandsFor}
use Rattle.histories.specs.Requests.{look, size, write, gives, Asked}
use Rattle.histories.specs.Steps.{wiped, Step}
use Rattle.histories.proofs.Sound.{Sound}
use Rattle.histories.proofs.Standing.{stands_good}
use Rattle.histories.proofs.Faults.{passes, is_due}
use Rattle.refusals.specs.declared.refusal.Refusal.{Refusal}
use Rattle.refusals.specs.declared.refusal.Refusal.TheVariants.{NotLive, WalkTooShort, OutputTooShort}
use Rattle.places.specs.declared.places.Places.{Places}
use Rattle.walks.specs.Walks.{Sized}
use Rattle.writing.specs.Writes.{Put, Unwritten, Written}
use Rattle.building.specs.Work.{model}
use Rattle.building.proofs.Seeing.{seen_live, stands_seen}
use Rattle.tables.specs.Models.{asked, answered}
use Rattle.tables.proofs.Lending.{seen_wiped, too_short, long_enough}
use Rattle.tables.proofs.Refusing.{refused_as, dead_free}

module _ (K : Kind) (L : Plan) (f : Entries) (p : Phase) (t : Places) (h : ℕ) (walk left : List ℕ) where
  abbrev m : Model
  m = model L f p t

  pub sized_step : (r : Result ℕ Refusal) → Sound K L m → left ≡ wiped t.capacity walk → Sized t h walk r
      → Step K L m (asked (look (size h)) walk []) (answered r left []) m
  sized_step (Ok x) sound list done =
      let live : Live m h = seen_live L f p t h done.0 in
      let g = sound.good h live in
      record {
        takes = tt;
        lent = refl;
        layout = refl;
        walk = seen_wiped L f p t walk left list;
        outcome = inl (record {
          faultless = (passes live, (passes (long_enough L f p t walk done.1), tt));
          phase = refl;
          does = (g.0, (g.2, (ap gives (done.2 g.0 (stands_seen L f p t g.0 h g.2)), refl)), refl, λ k. refl);
        });
      }
  sized_step (Err e) sound list (inl dead) =
      refused_as K L m (asked (look (size h)) walk []) e NotLive dead.0 left tt refl (seen_wiped L f p t walk left list) (inl (is_due (dead_free L f p t h dead.1))) (λ n. omega arith)
  sized_step (Err e) sound list (inr short) =
      refused_as K L m (asked (look (size h)) walk []) e WalkTooShort short.0 left tt refl (seen_wiped L f p t walk left list)
      (inr (passes (seen_live L f p t h short.1), inl (is_due (too_short L f p t walk short.2)))) (λ n. omega arith)

  module _ (output : List ℕ) (sound : Sound K L m) (list : left ≡ wiped t.capacity walk) where
    abbrev q : Asked
    q = asked (look (write h)) walk output

    unwritten_step : (e : Refusal) → Unwritten K L t h walk output e → Step K L m q (answered (Err e) left output) m
    unwritten_step e (inl dead) =
        refused_as K L m q e NotLive dead.0 left tt tt (seen_wiped L f p t walk left list) (inl (is_due (dead_free L f p t h dead.1))) (λ n. omega arith)
    unwritten_step e (inr (inl short)) =
        refused_as K L m q e WalkTooShort short.0 left tt tt (seen_wiped L f p t walk left list)
        (inr (passes (seen_live L f p t h short.1), inl (is_due (too_short L f p t walk short.2)))) (λ n. omega arith)
    unwritten_step e (inr (inr small)) =
        let live : Live m h = seen_live L f p t h small.1 in
        let g = sound.good h live in
        refused_as K L m q e OutputTooShort small.0 left tt tt (seen_wiped L f p t walk left list)
        (inr (
          passes live,
          inr (
            passes (long_enough L f p t walk small.2),
            inl (is_due (g.0, g.2, small.3 g.0 (stands_seen L f p t g.0 h g.2) g.1)),
          ),
        )) (λ n. omega arith)

    pub written_step : (after : List ℕ) (r : Result ℕ Refusal) → Written K L t h walk output after r → Step K L m q (answered r left after) m
    written_step after (Ok x) done =
        let live : Live m h = seen_live L f p t h done.0 in
        let g = sound.good h live in
        let put : Put K L g.0 output after x = done.2 g.0 (stands_seen L f p t g.0 h g.2) g.1 in
        record {
          takes = tt;
          lent = tt;
          layout = refl;
          walk = seen_wiped L f p t walk left list;
          outcome = inl (record {
            faultless = (passes live, (passes (long_enough L f p t walk done.1), (passes (λ small. fits small.0 small.1 small.2), tt)));
            phase = refl;
            does = (g.0, (g.2, ap gives put.long, put.bytes), refl, λ k. refl);
          });
        }
      where
        fits : (d : Diagram) → StandsFor m d h → ¬ (length output < length (sheet K L d))
        fits d stands small = omega (arith, (done.2 d (stands_seen L f p t d h stands) (stands_good m sound d h stands)).fits)
    written_step after (Err e) done =
        subst (λ o. Step K L m q (answered (Err e) left o) m) (sym done.1) (unwritten_step e done.0)
