-- The diagrams for which places stand, one by one: there are no more than places. Assumes nothing.
use Rattle.std.proofs.Common.{◌≡◌, ℕ, zero, suc, ◌<◌, ◌≤◌, List, [], ◌∷◌, ◌++◌, length, get_or, sym, refl, ap, subst, inl, inr, ⊎_elim, arith}
use mathlib.Core.List.Memᴰ
use mathlib.Core.List.{Memᴰ}
use Rattle.std.proofs.lemmas.Bool.{cases_eq}
use Rattle.diagrams.specs.Diagrams.{Diagram}
use Rattle.diagrams.specs.Sizes.{Distinct}
use Rattle.diagrams.specs.Places.{Content, Stands}
use Rattle.diagrams.specs.Reading.{nth}
use Rattle.diagrams.proofs.Places.{stands_for_one}
use Rattle.diagrams.proofs.Visits.{Mem}
use Rattle.histories.proofs.Different.{distinct_within}
use Rattle.places.specs.declared.places.Places.{Places}
use Rattle.places.specs.Tables.{holds}
use Rattle.places.proofs.Standing.{stands_used}
use Rattle.places.proofs.Extending.{used_below}
use Rattle.walks.specs.Walks.{StandFor}

module _ (at : ℕ → Content) where
  pub stand_push : (hs : List ℕ) (ds : List Diagram) (h : ℕ) (d : Diagram) → StandFor at hs ds → Stands at d h
      → StandFor at (hs ++ (h ∷ [])) (ds ++ (d ∷ []))
  stand_push [] [] h d all p = (p, tt)
  stand_push [] (e ∷ es) h d all p = absurd all
  stand_push (g ∷ gs) [] h d all p = absurd all
  stand_push (g ∷ gs) (e ∷ es) h d all p = (all.0, stand_push gs es h d all.1 p)

  pub stand_length : (hs : List ℕ) (ds : List Diagram) → StandFor at hs ds → length hs ≡ length ds
  stand_length [] [] all = refl
  stand_length [] (e ∷ es) all = absurd all
  stand_length (g ∷ gs) [] all = absurd all
  stand_length (g ∷ gs) (e ∷ es) all = ap suc (stand_length gs es all.1)

  -- The handle at an index stands for the diagram there.
  pub stand_nth : (hs : List ℕ) (ds : List Diagram) (i : ℕ) → StandFor at hs ds → i < length ds → Stands at (nth ds i) (get_or hs i 0)
  stand_nth [] [] i s l = absurd (omega arith)
  stand_nth [] (d ∷ ds) i s l = absurd s
  stand_nth (h ∷ hs) [] i s l = absurd s
  stand_nth (h ∷ hs) (d ∷ ds) zero s l = s.0
  stand_nth (h ∷ hs) (d ∷ ds) (suc i) s l = stand_nth hs ds i s.1 (omega arith)

  -- Each of the handles stands for one of the diagrams.
  pub stand_has : (hs : List ℕ) (ds : List Diagram) → StandFor at hs ds → (h : ℕ) → Memᴰ h hs
      → (d : Diagram) × Mem d ds × Stands at d h
  stand_has [] [] all h m = absurd (Memᴰ.not-nil m)
  stand_has [] (e ∷ es) all h m = absurd all
  stand_has (g ∷ gs) [] all h m = absurd all
  stand_has (g ∷ gs) (e ∷ es) all h m =
      elim (Memᴰ.cases_cons m) [
        | inl q ↦ (e, Memᴰ.head refl, subst (Stands at e) (sym q) all.0)
        | inr q ↦ let r = stand_has gs es all.1 h q in (r.0, Memᴰ.tail r.1, r.2)
      ]

  -- A handle of a diagram that is not among them is none of the handles.
  pub stand_new : (hs : List ℕ) (ds : List Diagram) → StandFor at hs ds → (h : ℕ) (d : Diagram) → Stands at d h → ¬ Mem d ds
      → ¬ Memᴰ h hs
  stand_new hs ds all h d p n m = let r = stand_has hs ds all h m in n (Memᴰ.cast (stands_for_one at d r.0 h p r.2) r.1)

  -- The handles of different diagrams are different.
  pub stand_distinct : (hs : List ℕ) (ds : List Diagram) → StandFor at hs ds → Distinct ds → Distinct hs
  stand_distinct [] [] all apart = tt
  stand_distinct [] (e ∷ es) all apart = absurd all
  stand_distinct (g ∷ gs) [] all apart = absurd all
  stand_distinct (g ∷ gs) (e ∷ es) all apart = (stand_new gs es all.1 g e all.0 apart.0, stand_distinct gs es all.1 apart.1)

-- The numbers below n.
below : ℕ → List ℕ
below zero = []
below (suc n) = n ∷ below n

length_below : (n : ℕ) → length (below n) ≡ n
unfolding below
length_below zero = refl
length_below (suc n) = ap suc (length_below n)

below_has : (n h : ℕ) → h < n → Memᴰ h (below n)
unfolding below
below_has zero h lt = absurd (omega arith)
below_has (suc n) h lt = ⊎_elim (λ e. Memᴰ.head e) (λ ne. Memᴰ.tail (below_has n h (omega arith))) (cases_eq h n)

-- Different numbers below n are no more than n.
pub few_below : (n : ℕ) (hs : List ℕ) → Distinct hs → ((h : ℕ) → Memᴰ h hs → h < n) → length hs ≤ n
few_below n hs apart small = omega (arith, length_below n, distinct_within hs (below n) apart (λ h m. below_has n h (small h m)))

-- Different diagrams in use are no more than the places.
pub stand_few : (t : Places) (hs : List ℕ) (ds : List Diagram) → StandFor (holds t) hs ds → Distinct ds → length hs ≤ t.capacity
stand_few t hs ds all apart =
    few_below t.capacity hs (stand_distinct (holds t) hs ds all apart)
    (λ h m. let r = stand_has (holds t) hs ds all h m in used_below t h (stands_used (holds t) r.0 h r.2))
