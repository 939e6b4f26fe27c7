-- The rules that the places of a table keep, and that a table is no more than its capacity and its places. Assumes nothing.
use Rattle.std.proofs.Common.{◌≡◌, ℕ, ◌≤◌, true, List, length, ap, subst₂}
use denote.Struct.Record.{Also-prop, Done-prop}
use denote.Struct.Props.{props}
use Rattle.places.specs.declared.place.Place.{Place as Slot}
use Rattle.places.specs.declared.places.Places.{Places}
use Rattle.places.specs.Contents.{at, leafy, Past, Idle, Deeper, Apart}

-- What a table states of its fields.
abbrev pub Rules : ℕ → List Slot → Type 0
Rules capacity slots = record {
  least : 2 ≤ capacity;
  few : capacity ≤ 4096;
  whole : length slots ≡ 4096;
  past : Past capacity slots;
  idle : Idle slots;
  deeper : Deeper slots;
  apart : Apart slots;
  zero : leafy (at slots 0) ≡ true;
  one : leafy (at slots 1) ≡ true;
}

-- Those of a table.
abbrev pub rules_of : (t : Places) → Rules t.capacity t.places
rules_of t = record {
  least = t.least;
  few = t.few;
  whole = t.whole;
  past = t.past;
  idle = t.idle;
  deeper = t.deeper;
  apart = t.apart;
  zero = t.zero;
  one = t.one;
}

-- The same, one after another, in the order in which a table states them.
abbrev Paired : ℕ → List Slot → Type 0
Paired capacity slots =
    (2 ≤ capacity)
    × ((capacity ≤ 4096)
    × ((length slots ≡ 4096)
    × (Past capacity slots
    × (Idle slots × (Deeper slots × (Apart slots × ((leafy (at slots 0) ≡ true) × ((leafy (at slots 1) ≡ true) × Unit {0}))))))))

abbrev paired : (t : Places) → Paired t.capacity t.places
paired t = (t.least, (t.few, (t.whole, (t.past, (t.idle, (t.deeper, (t.apart, (t.zero, (t.one, tt)))))))))

abbrev made : (capacity : ℕ) (slots : List Slot) → Paired capacity slots → Places
made capacity slots r = record {
  capacity = capacity;
  places = slots;
  least = r.0;
  few = r.1.0;
  whole = r.1.1.0;
  past = r.1.1.1.0;
  idle = r.1.1.1.1.0;
  deeper = r.1.1.1.1.1.0;
  apart = r.1.1.1.1.1.1.0;
  zero = r.1.1.1.1.1.1.1.0;
  one = r.1.1.1.1.1.1.1.1.0;
}

rules_prop : (capacity : ℕ) (slots : List Slot) → IsProp (Paired capacity slots)
rules_prop capacity slots =
    Also-prop (hlevel props)
    (λ _. Also-prop (hlevel props)
    (λ _. Also-prop (hlevel props)
    (λ _. Also-prop (hlevel props)
    (λ _. Also-prop (hlevel props)
    (λ _. Also-prop (hlevel props) (λ _. Also-prop (hlevel props) (λ _. Also-prop (hlevel props) (λ _. Also-prop (hlevel props) (λ _. Done-prop)))))))))

-- Tables of one capacity with the same places are the same.
pub same_table : (t u : Places) → t.capacity ≡ u.capacity → t.places ≡ u.places → t ≡ u
same_table t u e f =
    subst₂ (λ (capacity : ℕ) (slots : List Slot). (r : Paired capacity slots) → t ≡ made capacity slots r) e f
    (λ r. ap (made t.capacity t.places) (rules_prop t.capacity t.places (paired t) r)) (paired u)
