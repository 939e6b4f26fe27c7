-- One turn of filling: the next record of a sheet can have its place, gets it, or finds the table full. Assumes nothing.
use Rattle.std.proofs.Common.{◌≡◌, ℕ, suc, ◌+◌, ◌-◌, ◌<◌, ◌≤◌, List, [], ◌∷◌, ◌++◌, length, get_or, take, drop, sym, refl, subst, arith}
use mathlib.Core.List.{Memᴰ}
use Rattle.std.proofs.lemmas.List.{take_all, take-append-drop, length-take-le}
use Rattle.diagrams.specs.Kinds.{Kind}
use Rattle.diagrams.specs.Layouts.{Layout, Valid}
use Rattle.diagrams.specs.Diagrams.{Diagram, leaf, node, Good}
use Rattle.diagrams.specs.Sheets.{number}
use Rattle.diagrams.specs.Reading.{nth, Children}
use Rattle.diagrams.proofs.Visits.{mem_nth, number_within, number_more}
use Rattle.histories.specs.Stores.{Entries}
use Rattle.histories.specs.Tables.{Phase}
use Rattle.histories.proofs.Sound.{Sound}
use Rattle.places.specs.declared.places.Places.{Places}
use Rattle.places.specs.Tables.{holds, Given, Refused}
use Rattle.sheets.specs.Held.{shown}
use Rattle.walks.proofs.Standing.{stand_length}
use Rattle.building.specs.Work.{model}
use Rattle.reading.specs.Placing.{content_of, Child, Placeable, Ready, Filled, Crowded}
use Rattle.reading.proofs.Placing.{wanted, Placed, stand_number, stands_under}
use Rattle.reading.proofs.Filling.{good_member, placed_next, placed_crowded, placed_filled}

-- What the code finds in a record is what its place is to hold.
shown_wanted : (hs : List ℕ) (seen : List Diagram) (d : Diagram) → content_of hs (shown seen d) ≡ wanted hs seen d
shown_wanted hs seen (leaf v) = refl
shown_wanted hs seen (node l a b) = refl

module _ (K : Kind) (L : Layout) (valid : Valid L) (t u : Places) (hs : List ℕ) (ds more : List Diagram) (placed : Placed t u ds hs) where
  -- A child that was placed, where it stands below level l.
  child : (l : ℕ) (a : Diagram) → l < 32 → Memᴰ a ds → Good K L (suc l) a → Child u hs (l + 1) (number a (ds ++ more))
  child l a small q good =
      let same = number_more a ds more q in
      let under = stands_under K L valid u (suc l) a (get_or hs (number a ds) 0) (omega arith) good (stand_number (holds u) hs ds a placed.stand q) in
      subst (Child u hs (l + 1)) (sym same) (record {
        earlier = omega (arith, number_within a ds q, stand_length (holds u) hs ds placed.stand);
        deep = record { used = under.used; level = omega (arith, under.level) };
      })

  -- A good diagram whose children were placed can have its place.
  placeable : (d : Diagram) → Children d ds → Good K L 0 d → Placeable u hs (shown (ds ++ more) d)
  placeable (leaf v) c good = tt
  placeable (node l a b) c good =
      let small : l < 32 = omega (arith, good.1, valid.most) in
      (small, child l a small c.0 good.2, child l b small c.1 good.3)

module _ (K : Kind) (L : Layout) (bytes list : List ℕ) (seen : List Diagram) (ready : Ready K L bytes list seen) (t u : Places) (hs : List ℕ) where
  -- At the end.
  pub all_placed : (i : ℕ) → length seen ≤ i → Placed t u (take i seen) hs → Placed t u seen hs
  all_placed i past placed = subst (λ ds. Placed t u ds hs) (take_all i seen past) placed

  pub all_counted : Placed t u seen hs → length hs ≡ length seen
  all_counted placed = stand_length (holds u) hs seen placed.stand

  pub all_filled : Placed t u seen hs → (f : Entries) (p : Phase) → Sound K L (model L f p t)
      → Filled (model L f p t) (model L f p u) seen (get_or hs (length seen - 1) 0)
  all_filled = placed_filled K L seen ready.follow t u hs ready.some

  -- Before the end.
  module _ (i : ℕ) (inside : i < length seen) (placed : Placed t u (take i seen) hs) where
    pub turn_few : length hs < 4096
    turn_few = omega (arith, stand_length (holds u) hs (take i seen) placed.stand, length-take-le i seen (omega arith), ready.few)

    pub turn_placeable : Placeable u hs (shown seen (nth seen i))
    turn_placeable =
        subst (λ ds. Placeable u hs (shown ds (nth seen i))) (take-append-drop i seen)
        (placeable K L ready.valid t u hs (take i seen) (drop i seen) placed (nth seen i) (ready.held.earlier i inside)
        (good_member K L seen ready.follow t u hs (nth seen i) (mem_nth seen i inside)))

    pub turn_next : (v : Places) (h : ℕ) → Given u v (content_of hs (shown seen (nth seen i))) h → Placed t v (take (i + 1) seen) (hs ++ (h ∷ []))
    turn_next v h given =
        placed_next K L seen ready.follow t u hs i inside (ready.held.earlier i inside) placed v h
        (subst (λ c. Given u v c h) (shown_wanted hs seen (nth seen i)) given)

    pub turn_crowded : (v : Places) → Refused u v (content_of hs (shown seen (nth seen i))) → (f : Entries) (p : Phase) → Sound K L (model L f p t)
        → Crowded (model L f p t) seen i
    turn_crowded v refused =
        placed_crowded K L seen ready.follow t u hs i inside (ready.held.earlier i inside) placed v
        (subst (Refused u v) (shown_wanted hs seen (nth seen i)) refused)
