-- Work on the way: from the places t to u only diagrams with P came into use. Assumes nothing.
use Rattle.std.proofs.Common.{◌≡◌, ℕ, false, ◌⊎◌, sym, ap, ◌∙◌, subst, inl, inr, ⊎_elim, arith}
use Rattle.std.proofs.lemmas.Bool.{cases_Bool}
use Rattle.diagrams.specs.Kinds.{Kind}
use Rattle.diagrams.specs.Layouts.{Layout}
use Rattle.diagrams.specs.Diagrams.{Diagram, Good}
use Rattle.diagrams.specs.Places.{Content, Place, Stands}
use Rattle.histories.specs.Stores.{Entries}
use Rattle.histories.specs.Tables.{Phase, Live, Outnumber}
use Rattle.histories.specs.Steps.{Gains}
use Rattle.histories.proofs.Sound.{Sound}
use Rattle.histories.proofs.Pigeons.{places_outnumber}
use Rattle.places.specs.declared.places.Places.{Places}
use Rattle.places.specs.Contents.{in_use}
use Rattle.places.specs.Tables.{holds, Used, Held, Extends, Given, Refused}
use Rattle.places.proofs.Extending.{stands_still, stays, then, given_only, unused_vacant, unshared}
use Rattle.building.specs.Work.{model}
use Rattle.building.proofs.Seeing.{seen_room, seen_place, seen_stands, stands_seen, seen_live, live_seen, seen_unshared}

module _ (K : Kind) (L : Layout) (P : Diagram → Type 0) where
  -- Places in use stay, and each place in use stands for a good diagram that was in use before or has P.
  pub record Toward (t u : Places) : Type 0 where
    pub extends : Extends t u
    pub only : (h : ℕ) → Used u h → (d : Diagram) × Good K L 0 d × Stands (holds u) d h × (Held t d ⊎ P d)

  pub toward_start : (f : Entries) (p : Phase) (t : Places) → Sound K L (model L f p t) → Toward t t
  toward_start f p t s = record {
    extends = stays t;
    only = λ h u.
        let w = s.good h (seen_live L f p t h u) in
        let st = stands_seen L f p t w.0 h w.2 in
        (w.0, w.1, st, inl (h, st));
  }

  -- A place that is given to a good diagram with P.
  pub toward_given : {t u v : Places} {c : Content} {h : ℕ} → Toward t u → Given u v c h → (d : Diagram) → Stands (holds v) d h → Good K L 0 d → P d → Toward t v
  toward_given {t} {u} {v} {c} {h} w n d st g has = record {
    extends = then w.extends n.extends;
    only = λ k used.
        ⊎_elim (λ old. let o = w.only k old in (o.0, o.1, stands_still n.extends o.0 k o.2, o.3))
        (λ e. (d, g, subst (Stands (holds v) d) (sym e) st, inr has)) (given_only n k used);
  }

  -- At the end all diagrams with P are in use.
  pub toward_gains : (f g : Entries) (p q : Phase) {t u : Places} → Toward t u → ((d : Diagram) → P d → Held u d) → Gains (model L f p t) (model L g q u) P
  toward_gains f g p q {t} {u} w all = record {
    room = seen_room L g q u ∙ w.extends.room ∙ sym (seen_room L f p t);
    kept = λ h l. seen_place L g q u h ∙ w.extends.same h (live_seen L f p t h l) ∙ sym (seen_place L f p t h);
    started = λ h n.
        ap (λ (x : Place). x.count) (seen_place L g q u h)
        ∙ ⊎_elim (λ used. w.extends.fresh h (unused h n) used) (λ none. ap (λ (x : Place). x.count) (unused_vacant u h none)) (cases_Bool (in_use (holds u h)));
    gained = λ d has. let r = all d has in (r.0, seen_stands L g q u d r.0 r.1);
    only = λ h l.
        let o = w.only h (live_seen L g q u h l) in (
          o.0,
          seen_stands L g q u o.0 h o.2,
          ⊎_elim (λ old. inl (old.0, seen_stands L f p t o.0 old.0 old.1)) (λ new. inr new) o.3,
        );
    unshared = seen_unshared L g q u;
  }
    where
      unused : (h : ℕ) → ¬ Live (model L f p t) h → in_use (holds t h) ≡ false
      unused h n = ⊎_elim (λ used. absurd (n (seen_live L f p t h used))) (λ none. none) (cases_Bool (in_use (holds t h)))

  -- A diagram with P that finds no room: its content c stands nowhere, and no place is free.
  pub toward_full : (f : Entries) (p : Phase) {t u v : Places} {c : Content} → Toward t u → Refused u v c → (d : Diagram)
      → ((h : ℕ) → Stands (holds u) d h → holds u h ≡ c) → P d → Outnumber (model L f p t) P
  toward_full f p {t} {u} w n d told has =
      places_outnumber (model L f p t) (holds u) P (unshared u)
      (λ h lt.
      let o = w.only h (n.full h (omega (arith, seen_room L f p t, w.extends.room))) in
      (o.0, o.2, ⊎_elim (λ old. inl (old.0, seen_stands L f p t o.0 old.0 old.1)) (λ new. inr new) o.3))
      d (λ s. n.absent s.0 (told s.0 s.1)) has
