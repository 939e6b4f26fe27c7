-- The places of the code and the table that the specification sees hold the same. Assumes nothing.
use Rattle.std.proofs.Common.{◌≡◌, ℕ, sym, ap, ◌∙◌, subst}
use mathlib.Core.Path.{fun_ext}
use Rattle.diagrams.specs.Layouts.{Layout}
use Rattle.diagrams.specs.Diagrams.{Diagram}
use Rattle.diagrams.specs.Places.{Place, Stands, Unshared}
use Rattle.histories.specs.Stores.{Entries}
use Rattle.histories.specs.Tables.{Phase, Model, capacity, place, content, Live, StandsFor}
use Rattle.places.specs.declared.places.Places.{Places}
use Rattle.places.specs.Tables
use Rattle.places.specs.Tables.{holds, Used, Given}
use Rattle.places.proofs.Holding.{free_unused, used_not_free}
use Rattle.places.proofs.Listing.{list_length, list_place}
use Rattle.places.proofs.Extending.{unshared}
use Rattle.building.specs.Work.{model}

module _ (L : Layout) (f : Entries) (p : Phase) (t : Places) where
  abbrev m : Model
  m = model L f p t

  pub seen_room : capacity m ≡ t.capacity
  seen_room = list_length t

  pub seen_place : (h : ℕ) → place m h ≡ Tables.place t h
  seen_place = list_place t

  pub seen_content : (h : ℕ) → content m h ≡ holds t h
  seen_content h = ap (λ (q : Place). q.content) (seen_place h)

  pub seen_all : content m ≡ holds t
  seen_all = fun_ext seen_content

  pub seen_stands : (d : Diagram) (h : ℕ) → Stands (holds t) d h → StandsFor m d h
  seen_stands d h s = subst (λ at. Stands at d h) (sym seen_all) s

  pub stands_seen : (d : Diagram) (h : ℕ) → StandsFor m d h → Stands (holds t) d h
  stands_seen d h s = subst (λ at. Stands at d h) seen_all s

  pub seen_live : (h : ℕ) → Used t h → Live m h
  seen_live h u e = free_unused (holds t h) (sym (seen_content h) ∙ e) u

  pub live_seen : (h : ℕ) → Live m h → Used t h
  live_seen h l = used_not_free (holds t h) (λ e. l (seen_content h ∙ e))

  pub seen_unshared : Unshared (content m)
  seen_unshared = subst Unshared (sym seen_all) (unshared t)
