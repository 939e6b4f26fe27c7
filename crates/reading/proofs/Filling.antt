-- What records with their places come to: all got one, or one of them found the table full. Assumes nothing.
use Rattle.std.proofs.Common.{◌≡◌, ℕ, ◌+◌, ◌-◌, ◌<◌, List, [], ◌∷◌, ◌++◌, length, get_or, take, drop, None, sym, refl, ap, ◌∙◌, subst, inl, inr, ⊎_elim, arith}
use mathlib.Core.List.Memᴰ
use mathlib.Core.List.{Memᴰ}
use Rattle.diagrams.proofs.Listed.{all_mem}
use Rattle.std.proofs.lemmas.List.{take_more, take-append-drop}
use Rattle.diagrams.specs.Kinds.{Kind}
use Rattle.diagrams.specs.Layouts.{Layout}
use Rattle.diagrams.specs.Diagrams.{Diagram, leaf, Good}
use Rattle.diagrams.specs.Reading.{nth, last, Children, Follow}
use Rattle.diagrams.proofs.Visits.{mem_last, follow_good}
use Rattle.histories.specs.Stores.{Entries}
use Rattle.histories.specs.Tables.{Phase, Model, Outnumber}
use Rattle.histories.specs.Steps.{Gains}
use Rattle.histories.proofs.Sound.{Sound}
use Rattle.histories.proofs.StepSound.{gains_sound}
use Rattle.histories.proofs.Rightness.{none_right}
use Rattle.histories.proofs.Pigeons.{gains_fit}
use Rattle.places.specs.declared.places.Places.{Places}
use Rattle.places.specs.Tables.{holds, Given, Refused}
use Rattle.places.proofs.Extending.{stands_still}
use Rattle.building.specs.Work.{model}
use Rattle.building.proofs.Seeing.{seen_live, seen_stands, stands_seen}
use Rattle.building.proofs.Toward.{Toward, toward_gains, toward_full}
use Rattle.reading.specs.Placing.{Filled, Crowded}
use Rattle.walks.proofs.Standing.{stand_nth}
use Rattle.reading.proofs.Placing.{wanted, Placed, stand_member, wanted_told, wanted_more, placed_more}

module _ (K : Kind) (L : Layout) (f : Entries) (p : Phase) (t u : Places) (ds : List Diagram) (hs : List ℕ) (placed : Placed t u ds hs)
    (goods : (d : Diagram) → Memᴰ d ds → Good K L 0 d) (sound : Sound K L (model L f p t)) where
  abbrev m : Model
  m = model L f p t

  -- Each place in use stands for a good diagram that was in use before or is a record's.
  placed_toward : (P : Diagram → Type 0) → ((d : Diagram) → Memᴰ d ds → P d) → Toward K L P t u
  placed_toward P has = record {
    extends = placed.extends;
    only = λ h used.
        ⊎_elim
        (λ old.
        let g = sound.good h (seen_live L f p t h old) in
        let st = stands_seen L f p t g.0 h g.2 in
        (g.0, g.1, stands_still placed.extends g.0 h st, inl (h, st)))
        (λ new. (new.0, goods new.0 new.1, new.2, inr (has new.0 new.1))) (placed.only h used);
  }

  pub placed_gains : (g : Entries) (q : Phase) → Gains m (model L g q u) (λ d. Memᴰ d ds)
  placed_gains g q =
      toward_gains K L (λ d. Memᴰ d ds) f g p q (placed_toward (λ d. Memᴰ d ds) (λ d r. r)) (λ d r. stand_member (holds u) hs ds d placed.stand r)

  -- The records that got their places fit.
  pub placed_fits : ¬ Outnumber m (λ d. Memᴰ d ds)
  placed_fits =
      let n = model L (λ k. None) p u in
      let gains = placed_gains (λ k. None) p in
      gains_fit (gains_sound m n sound (λ d. Memᴰ d ds) gains goods (none_right K L m n (λ k. refl))) gains

  -- One more that is refused a place does not.
  pub placed_full : (v : Places) (d : Diagram) → Children d ds → Refused u v (wanted hs ds d) → Outnumber m (λ x. Memᴰ x (ds ++ (d ∷ [])))
  placed_full v d c refused =
      toward_full K L (λ x. Memᴰ x (ds ++ (d ∷ []))) f p (placed_toward (λ x. Memᴰ x (ds ++ (d ∷ []))) (λ x q. Memᴰ.append_left (d ∷ []) q))
      refused d (wanted_told u hs ds placed.stand d c) (mem_last d ds)

-- The records of a sheet, each after those before it; the first i have their places.
module _ (K : Kind) (L : Layout) (seen : List Diagram) (follow : Follow K L [] seen) (t u : Places) (hs : List ℕ) where
  pub good_member : (d : Diagram) → Memᴰ d seen → Good K L 0 d
  good_member d = all_mem (Good K L 0) seen (follow_good K L [] seen follow)

  take_member : (i : ℕ) (d : Diagram) → Memᴰ d (take i seen) → Memᴰ d seen
  take_member i d q = subst (Memᴰ d) (take-append-drop i seen) (Memᴰ.append_left (drop i seen) q)

  -- All have theirs.
  pub placed_filled : 0 < length seen → Placed t u seen hs → (f : Entries) (p : Phase) → Sound K L (model L f p t)
      → Filled (model L f p t) (model L f p u) seen (get_or hs (length seen - 1) 0)
  placed_filled some placed f p sound = record {
    answers = seen_stands L f p u (last seen) _ (stand_nth (holds u) hs seen (length seen - 1) placed.stand (omega arith));
    gains = placed_gains K L f p t u seen hs placed good_member sound f p;
  }

  module _ (i : ℕ) (inside : i < length seen) (children : Children (nth seen i) (take i seen)) (placed : Placed t u (take i seen) hs) where
    -- What the next is to hold.
    wanted_next : wanted hs seen (nth seen i) ≡ wanted hs (take i seen) (nth seen i)
    wanted_next =
        ap (λ ds. wanted hs ds (nth seen i)) (sym (take-append-drop i seen)) ∙ wanted_more hs (take i seen) (drop i seen) (nth seen i) children

    -- The next got its place.
    pub placed_next : (v : Places) (h : ℕ) → Given u v (wanted hs seen (nth seen i)) h → Placed t v (take (i + 1) seen) (hs ++ (h ∷ []))
    placed_next v h given =
        subst (λ ds. Placed t v ds (hs ++ (h ∷ []))) (sym (take_more seen i (leaf 0) inside))
        (placed_more placed (nth seen i) children h (subst (λ c. Given u v c h) wanted_next given))

    -- The next found the table full.
    pub placed_crowded : (v : Places) → Refused u v (wanted hs seen (nth seen i)) → (f : Entries) (p : Phase) → Sound K L (model L f p t)
        → Crowded (model L f p t) seen i
    placed_crowded v refused f p sound = record {
      inside = inside;
      fits = placed_fits K L f p t u (take i seen) hs placed goods sound;
      full =
          subst (λ ds. Outnumber (model L f p t) (λ d. Memᴰ d ds)) (sym (take_more seen i (leaf 0) inside))
          (placed_full K L f p t u (take i seen) hs placed goods sound v (nth seen i) children (subst (Refused u v) wanted_next refused));
    }
      where
        goods : (d : Diagram) → Memᴰ d (take i seen) → Good K L 0 d
        goods d q = good_member d (take_member i d q)
