-- Tables of which one place in use has another count. Assumes nothing.
use Rattle.std.proofs.Common.{◌≡◌, ℕ, ◌≤◌, true, false, List, get_or, set, subst, arith, length-set}
use mathlib.Core.Path.{fun_ext}
use Rattle.std.proofs.lemmas.Grind.{common_steps}
use Rattle.diagrams.specs.Places.{Content}
use Rattle.places.specs.declared.place.Place.{Place as Slot}
use Rattle.places.specs.declared.places.Places.{Places}
use Rattle.places.specs.Contents.{blank, place_at, at, in_use, leafy, deep, quiet}
use Rattle.places.specs.Tables.{Used}
use Rattle.places.proofs.Rules.{Rules}

-- Every place holds what it held.
still : (slots : List Slot) (h : ℕ) (p : Slot) (g : ℕ) → p.content ≡ (get_or slots h blank).content → at slots g ≡ at (set slots h p) g
still slots h p g e = grind (arith, common_steps)

idle : (slots : List Slot) (h : ℕ) (p : Slot) (g : ℕ) → p.content ≡ (get_or slots h blank).content → in_use (at slots h) ≡ true
    → quiet (place_at slots g) ≡ true → quiet (place_at (set slots h p) g) ≡ true
idle slots h p g e used q = grind (arith, common_steps)

pub recounted : (t : Places) (h : ℕ) (p : Slot) → Used t h → p.content ≡ (get_or t.places h blank).content → Rules t.capacity (set t.places h p)
recounted t h p used e =
    let q : at t.places ≡ at (set t.places h p) = fun_ext (λ g. still t.places h p g e) in record {
      least = t.least;
      few = t.few;
      whole = simp length-set t.whole;
      past = subst (λ (held : ℕ → Content). (g : ℕ) → t.capacity ≤ g → in_use (held g) ≡ false) q t.past;
      idle = λ g. idle t.places h p g e used (t.idle g);
      deeper = subst (λ (held : ℕ → Content). (g : ℕ) → deep held (held g) ≡ true) q t.deeper;
      apart = subst (λ (held : ℕ → Content). (g k : ℕ) → (in_use (held g) ≡ true) × (held g ≡ held k) → g ≡ k) q t.apart;
      zero = subst (λ (held : ℕ → Content). leafy (held 0) ≡ true) q t.zero;
      one = subst (λ (held : ℕ → Content). leafy (held 1) ≡ true) q t.one;
    }
