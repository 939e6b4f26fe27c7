-- Grading takes its step: refused, or the value of the handle's rule. Assumes nothing.
use Rattle.std.proofs.Common.{◌≡◌, ℕ, [], Ok, Err, refl, ap, inl, inr, arith}
use Rattle.diagrams.specs.Kinds.{Kind}
use Rattle.diagrams.specs.Layouts.{Layout as Plan, Fruit}
use Rattle.diagrams.specs.Diagrams.{Diagram, rule, Good}
use Rattle.diagrams.specs.Places.{Stands}
use Rattle.histories.specs.Stores.{Entries}
use Rattle.histories.specs.Tables.{released, Model}
use Rattle.histories.specs.Requests.{look, grade, gives}
use Rattle.histories.specs.Steps.{Step}
use Rattle.histories.proofs.Sound.{Sound}
use Rattle.histories.proofs.Faults.{passes, is_due}
use Rattle.refusals.specs.declared.refusal.Refusal.{Refusal}
use Rattle.refusals.specs.declared.refusal.Refusal.TheVariants.{NotLive, NotAFruit}
use Rattle.places.specs.declared.places.Places.{Places}
use Rattle.places.specs.Tables.{holds, Used}
use Rattle.building.specs.Work.{model}
use Rattle.building.proofs.Seeing.{seen_live, stands_seen}
use Rattle.tables.specs.Models.{plain, gave}
use Rattle.tables.proofs.Refusing.{refused_step, refused_as, dead_free}

module _ (K : Kind) (L : Plan) (f : Entries) (t : Places) (h fruit : ℕ) where
  abbrev m : Model
  m = model L f released t

  -- The handle names no place in use.
  pub grade_dead : (e : Refusal) → (e ≡ NotLive) × (Used t h → ⊥) → Step K L m (plain (look (grade h fruit))) (gave (Err e)) m
  grade_dead e dead =
      refused_as K L m (plain (look (grade h fruit))) e NotLive dead.0 [] refl (refl, refl) refl (inl (is_due (dead_free L f released t h dead.1))) (λ n. omega arith)

  -- The word is no fruit.
  pub grade_unfit : Used t h → ¬ Fruit L fruit → Step K L m (plain (look (grade h fruit))) (gave (Err NotAFruit)) m
  grade_unfit used unfit =
      refused_step K L m (plain (look (grade h fruit))) NotAFruit [] refl (refl, refl) refl (inr (passes (seen_live L f released t h used), inl (is_due unfit))) (λ e. omega arith)

  -- The value that the handle's rule gives the fruit.
  pub graded : Sound K L m → Used t h → Fruit L fruit → (x : ℕ) → ((d : Diagram) → Stands (holds t) d h → Good K L 0 d → x ≡ rule K L d fruit)
      → Step K L m (plain (look (grade h fruit))) (gave (Ok x)) m
  graded sound used fit x value =
      let live = seen_live L f released t h used in
      let g = sound.good h live in
      record {
        takes = refl;
        lent = (refl, refl);
        layout = refl;
        walk = refl;
        outcome = inl (record {
          faultless = (passes live, (passes (λ none. none fit), tt));
          phase = refl;
          does = (g.0, (g.2, (ap gives (value g.0 (stands_seen L f released t g.0 h g.2) g.1), refl)), refl, λ k. refl);
        });
      }
