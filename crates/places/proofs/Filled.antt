-- A table of which a free place is filled with a content that no place holds. Assumes nothing.
use Rattle.std.proofs.Common.{◌≡◌, ℕ, ◌≤◌, true, false, cond, eqb, List, set, Some, None, arith, length-set}
use Rattle.std.proofs.lemmas.Grind.{common_steps}
use Rattle.std.proofs.lemmas.Bool.Decides.{nat_tests}
use Rattle.diagrams.specs.Places.{free}
use Rattle.places.specs.declared.place.Content.{Content as Stored}
use Rattle.places.specs.declared.place.Place.{Place as Slot}
use Rattle.places.specs.declared.places.Places.{Places}
use Rattle.places.specs.Contents.{seen_content, place_at, at, in_use, deep, quiet}
use Rattle.places.specs.Tables.{holds, Sought}
use Rattle.places.proofs.Holding.{deep_kept}
use Rattle.places.proofs.Rules.{Rules}

module _ (t : Places) (s : Stored) (h : ℕ) (p : Slot) (new : p ≡ record { content = s; count = 0 }) (used : in_use (seen_content s) ≡ true) (sound : deep (holds t) (seen_content s) ≡ true)
    (absent : Sought t (seen_content s) None) (spare : Sought t free (Some h)) where
  abbrev after : List Slot
  after = set t.places h p

  -- A content that stands nowhere below the capacity stands nowhere.
  nowhere : (g : ℕ) → holds t g ≡ seen_content s → ⊥
  nowhere g e = grind (arith, common_steps, absent g, t.past g)

  holds_each : (g : ℕ) → at after g ≡ cond (eqb g h) (seen_content s) (holds t g)
  holds_each g = grind (arith, common_steps, nat_tests, t.few, t.whole)

  kept : (g : ℕ) → in_use (holds t g) ≡ true → at after g ≡ holds t g
  kept g u = grind (arith, common_steps, nat_tests, holds_each g)

  past : (g : ℕ) → t.capacity ≤ g → in_use (at after g) ≡ false
  past g le = grind (arith, common_steps, nat_tests, holds_each g, t.past g)

  idle : (g : ℕ) → quiet (place_at after g) ≡ true
  idle g = grind (arith, common_steps, t.idle g)

  deeper : (g : ℕ) → deep (holds t) (at after g) ≡ true
  deeper g = grind (arith, common_steps, holds_each g, t.deeper g)

  apart : (g k : ℕ) → (in_use (at after g) ≡ true) × (at after g ≡ at after k) → g ≡ k
  apart g k (u, e) = grind (arith, common_steps, nat_tests, holds_each g, holds_each k, t.apart g k, nowhere g, nowhere k)

  pub filled : Rules t.capacity after
  filled = record {
    least = t.least;
    few = t.few;
    whole = simp length-set t.whole;
    past = past;
    idle = idle;
    deeper = λ g. deep_kept (holds t) (at after) kept (at after g) (deeper g);
    apart = apart;
    zero = grind (arith, common_steps, kept 0, t.zero);
    one = grind (arith, common_steps, kept 1, t.one);
  }
