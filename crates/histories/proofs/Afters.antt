-- What two steps from one table and one request leave: equal outputs, and one table where nothing is left open. Assumes nothing.
use Rattle.std.proofs.Common.{◌≡◌, ℕ, ◌⊎◌, ◌++◌, length, drop, None, sym, ap, ◌∙◌, inl, inr, arith}
use native.Mathlib.Decide.{ℕ_discrete}
use Rattle.diagrams.specs.Kinds.{Kind}
use Rattle.diagrams.specs.Layouts.{Layout}
use Rattle.diagrams.specs.Diagrams.{Lawful, Diagram}
use Rattle.diagrams.specs.Sheets.{sheet}
use Rattle.diagrams.specs.Places.{vacant}
use Rattle.diagrams.proofs.Places.{stands_for_one}
use Rattle.histories.specs.Stores.{Key, Entries}
use Rattle.histories.specs.Tables.{Model, capacity, place, content}
use Rattle.histories.specs.Requests.{Look, size, write, grade, Call, build, read, hold, let_go, sweep, look, release, reopen, Asked, Answer}
use Rattle.histories.specs.Steps.{Reached, PlacesStay, EntriesStay, Counted, Swept, Shows, Does, Refused}
use Rattle.histories.specs.Histories.{Fixed, SameState}
use Rattle.histories.proofs.Sound.{Sound}
use Rattle.histories.proofs.Standing.{stay_place}
use Rattle.histories.proofs.FirstFault.{one_first}

module _ (m n n' : Model) where
  -- Where both keep all places, they have the same.
  stay_same : PlacesStay m n → PlacesStay m n' → (h : ℕ) → place n' h ≡ place n h
  stay_same s t h = stay_place m n' t h ∙ sym (stay_place m n s h)

  -- Where both have the entries e, they answer alike.
  entries_same : (e : Entries) → ((k : Key) → n.entries k ≡ e k) → ((k : Key) → n'.entries k ≡ e k) → (k : Key) → n'.entries k ≡ n.entries k
  entries_same e s t k = t k ∙ sym (s k)

  stay_state : PlacesStay m n → PlacesStay m n' → EntriesStay m n → EntriesStay m n' → SameState n n'
  stay_state s t u v = record { places = stay_same s t; entries = entries_same m.entries u v }

  -- Where both give one place the same count, every place is the same.
  counted_same : (h x y : ℕ) → x ≡ y → Counted m h x n → Counted m h y n' → (g : ℕ) → place n' g ≡ place n g
  counted_same h x y e s t g =
      elim (ℕ_discrete g h) [
        | yes here ↦
            ap (place n') here ∙ t.here ∙ ap (λ c. record { content = content m h; count = c }) (sym e) ∙ sym s.here ∙ ap (place n) (sym here)
        | no other ↦ t.elsewhere g other ∙ sym (s.elsewhere g other)
      ]

  counted_state : (h x y : ℕ) → x ≡ y → Counted m h x n → Counted m h y n' → SameState n n'
  counted_state h x y e s t = record { places = counted_same h x y e s t; entries = entries_same m.entries s.entries t.entries }

  -- Two sweeps keep the places that are reached and free the others.
  swept_same : (x y : ℕ) → Swept m x n → Swept m y n' → (h : ℕ) → place n' h ≡ place n h
  swept_same x y s t h = both (s.each h) (t.each h)
    where
      both : (Reached m h × (place n h ≡ place m h)) ⊎ ((¬ Reached m h) × (place n h ≡ vacant))
          → (Reached m h × (place n' h ≡ place m h)) ⊎ ((¬ Reached m h) × (place n' h ≡ vacant)) → place n' h ≡ place n h
      both (inl u) (inl v) = v.1 ∙ sym u.1
      both (inl u) (inr v) = absurd (v.0 u.0)
      both (inr u) (inl v) = absurd (u.0 v.0)
      both (inr u) (inr v) = v.1 ∙ sym u.1

  swept_state : (x y : ℕ) → Swept m x n → Swept m y n' → SameState n n'
  swept_state x y s t = record { places = swept_same x y s t; entries = entries_same (λ k. None) s.entries t.entries }

module _ (K : Kind) (L : Layout) (m : Model) (q : Asked) where
  module _ (n : Model) (a : Answer) where
    -- An accepted call keeps the capacity.
    pub does_room : (c : Call) → Does K L m q c a n → capacity n ≡ capacity m
    does_room (build b) s = s.2.worked.gains.room
    does_room (read bs) s = s.2.gains.room
    does_room (hold h) s = s.2.room
    does_room (let_go h) s = s.2.room
    does_room sweep s = s.2.room
    does_room (look l) s = ap length s.2
    does_room release s = ap length s.2
    does_room reopen s = ap length s.2

  module _ (n n' : Model) (a b : Answer) where
    shows_output : (l : Look) (d e : Diagram) → Shows K L m q l d a → Shows K L m q l e b → b.output ≡ a.output
    shows_output (size h) d e s t = t.1.1 ∙ sym s.1.1
    shows_output (write h) d e s t =
        t.2 ∙ ap (λ x. sheet K L x ++ drop (length (sheet K L x)) q.output) (stands_for_one (content m) e d h t.0 s.0) ∙ sym s.2
    shows_output (grade h fruit) d e s t = t.1.1 ∙ sym s.1.1

    -- Accepted calls leave one output.
    pub does_output : (c : Call) → Does K L m q c a n → Does K L m q c b n' → b.output ≡ a.output
    does_output (build x) s t = t.1.1 ∙ sym s.1.1
    does_output (read bs) s t = t.1.1 ∙ sym s.1.1
    does_output (hold h) s t = t.1.1 ∙ sym s.1.1
    does_output (let_go h) s t = t.1.1 ∙ sym s.1.1
    does_output sweep s t = t.1.1 ∙ sym s.1.1
    does_output (look l) s t = shows_output l s.0 t.0 s.1 t.1
    does_output release s t = t.1 ∙ sym s.1
    does_output reopen s t = t.1 ∙ sym s.1

    -- Where no handle is chosen, accepted calls leave one table.
    pub does_state : (c : Call) → Fixed c → Does K L m q c a n → Does K L m q c b n' → SameState n n'
    does_state (build x) fixed s t = absurd fixed
    does_state (read bs) fixed s t = absurd fixed
    does_state (hold h) fixed s t = counted_state m n n' h s.0 t.0 (s.3 ∙ sym t.3) s.2 t.2
    does_state (let_go h) fixed s t =
        let same : s.0 ≡ t.0 = omega (arith, s.3, t.3) in counted_state m n n' h s.0 t.0 same s.2 t.2
    does_state sweep fixed s t = swept_state m n n' s.0 t.0 s.2 t.2
    does_state (look l) fixed s t = stay_state m n n' s.2 t.2 s.3 t.3
    does_state release fixed s t = stay_state m n n' s.2 t.2 s.3 t.3
    does_state reopen fixed s t = stay_state m n n' s.2 t.2 s.3 t.3

    -- Two refusals leave one table: with number 25 both stores are empty, with any other both are as before.
    pub refused_state : Lawful K L → Sound K L m → Refused K L m q a n → Refused K L m q b n' → SameState n n'
    refused_state ok sound r s =
        let same = one_first K L ok m sound q r.number r.byte_place s.number s.byte_place r.first s.first in
        record {
          places = stay_same m n n' r.places s.places;
          entries =
              elim (ℕ_discrete r.number 25) [
                | yes full ↦ entries_same m n n' (λ k. None) (r.emptied full) (s.emptied (sym same.0 ∙ full))
                | no other ↦ entries_same m n n' m.entries (r.entries other) (s.entries (λ full. other (same.0 ∙ full)))
              ];
        }
