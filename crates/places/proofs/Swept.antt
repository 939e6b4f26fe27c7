-- A table of which the places with no mark are freed. Assumes nothing.
use Rattle.std.proofs.Common.{◌≡◌, ℕ, ◌<◌, ◌≤◌, Bool, true, false, not, cond, ◌&&◌, eqb, List, length, get_or, take, refl, ap, ◌∙◌, arith, length-take-le}
use Rattle.std.proofs.lemmas.Grind.{common_steps}
use Rattle.std.proofs.lemmas.Bool.Decides.{nat_tests}
use Rattle.std.proofs.lemmas.Bool.{eqb-false}
use Rattle.diagrams.proofs.Tallies.{tally_same}
use Rattle.diagrams.specs.Places.{Content, free, leaf_word, node_at, vacant}
use Rattle.places.specs.declared.place.Place.{Place as Slot}
use Rattle.places.specs.declared.places.Places.{Places}
use Rattle.places.specs.Contents.{seen, blank, place_at, at, in_use, deep, quiet}
use Rattle.places.specs.Tables.{place, holds}
use Rattle.places.specs.Keeping.{Keeps, Freed, loose_at, swept, Swept}
use Rattle.places.proofs.Extending.{unused_vacant}
use Rattle.places.proofs.Rules.{Rules}

-- What is deep stays deep where its children keep what they hold.
deep_children : (held after : ℕ → Content) (c : Content) → ((l x y : ℕ) → c ≡ node_at l x y → (after x ≡ held x) × (after y ≡ held y)) → deep held c ≡ true → deep after c ≡ true
deep_children held after free k t = refl
deep_children held after (leaf_word v) k t = refl
deep_children held after (node_at l x y) k t = let q = k l x y refl in grind (arith, common_steps)

-- A place that was swept is free where its mark is 0, and as it was elsewhere.
swept_place : (s : Slot) (mark : ℕ) → (in_use (seen s).content ≡ false → seen s ≡ vacant) → seen (swept s mark) ≡ cond (eqb mark 0) vacant (seen s)
swept_place s mark none = grind (arith, common_steps, nat_tests)

module _ (t : Places) (marks : List ℕ) (room : t.capacity ≤ length marks) (k : Keeps t marks)
    (after : List Slot) (freed : ℕ) (s : Swept t.places after (take t.capacity marks) freed) where
  each : (h : ℕ) → place_at after h ≡ cond (eqb (get_or marks h 0) 0) vacant (place t h)
  each h = grind (arith, common_steps, s.below h, s.rest h, swept_place (get_or t.places h blank) (get_or marks h 0) (unused_vacant t h), t.past h)

  holds_each : (h : ℕ) → at after h ≡ cond (eqb (get_or marks h 0) 0) free (holds t h)
  holds_each h = grind (arith, common_steps, each h)

  past : (h : ℕ) → t.capacity ≤ h → in_use (at after h) ≡ false
  past h le = grind (arith, common_steps, holds_each h, t.past h le)

  idle : (h : ℕ) → quiet (place_at after h) ≡ true
  idle h = grind (arith, common_steps, each h, t.idle h)

  same : (h : ℕ) → 0 < get_or marks h 0 → at after h ≡ holds t h
  same h m = grind (arith, common_steps, holds_each h)

  deeper : (h : ℕ) → deep (at after) (at after h) ≡ true
  deeper h = ap (deep (at after)) (holds_each h) ∙ kept (eqb (get_or marks h 0) 0) refl
    where
      kept : (b : Bool) → eqb (get_or marks h 0) 0 ≡ b → deep (at after) (cond b free (holds t h)) ≡ true
      kept true e = refl
      kept false e =
          deep_children (holds t) (at after) (holds t h) (λ l x y q. let m = k.children h l x y q (omega (arith, eqb-false _ _ e)) in (same x m.0, same y m.1)) (t.deeper h)

  apart : (g h : ℕ) → (in_use (at after g) ≡ true) × (at after g ≡ at after h) → g ≡ h
  apart g h (u, e) = grind (arith, common_steps, holds_each g, holds_each h, t.apart g h)

  pub swept_rules : Rules t.capacity after
  swept_rules = record {
    least = t.least;
    few = t.few;
    whole = s.size ∙ t.whole;
    past = past;
    idle = idle;
    deeper = deeper;
    apart = apart;
    zero = grind (arith, common_steps, holds_each 0, k.zero, t.zero);
    one = grind (arith, common_steps, holds_each 1, k.one, t.one);
  }

  -- A place is freed where it was in use and is not.
  counted : (h : ℕ) → h < t.capacity → loose_at t.places (take t.capacity marks) h ≡ (in_use (holds t h) && not (in_use (at after h)))
  counted h lt = grind (arith, common_steps, holds_each h)

  pub swept_freed : (u : Places) → u.capacity ≡ t.capacity → u.places ≡ after → Freed t u marks freed
  swept_freed u same slots = record {
    room = same;
    kept = λ h m. grind (arith, common_steps, each h);
    gone = λ h m. grind (arith, common_steps, each h);
    many = rw slots (rw (length-take-le t.capacity marks room) at s.many ∙ tally_same t.capacity _ _ counted);
  }
