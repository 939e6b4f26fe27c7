-- A table that holds zero and one, over a store that has forgotten, is as making leaves it. Assumes nothing.
use Rattle.std.proofs.Common.{◌≡◌, ℕ, refl, ◌∙◌, subst}
use Rattle.diagrams.specs.Kinds.{Kind}
use Rattle.diagrams.specs.Layouts.{Layout, Capacious}
use Rattle.histories.specs.Stores.{Entries, Forgotten}
use Rattle.histories.specs.Tables.{opened, Made}
use Rattle.places.specs.declared.places.Places.{Places}
use Rattle.places.specs.Tables.{Fresh}
use Rattle.building.specs.Work.{model}
use Rattle.building.proofs.Seeing.{seen_room, seen_place}

pub fresh_made : (K : Kind) (L : Layout) (f : Entries) (t : Places) (c : ℕ) → Capacious c → Fresh t c K.zero K.one → Forgotten f → Made K L c (model L f opened t)
fresh_made K L f t c range new none = record {
  layout = refl;
  room = seen_room L f opened t ∙ new.room;
  range = range;
  zero = seen_place L f opened t 0 ∙ new.first;
  one = seen_place L f opened t 1 ∙ new.second;
  rest = λ h far. seen_place L f opened t h ∙ new.rest h far;
  entries = none;
  phase = refl;
}

-- By the words and the capacity that the code read.
pub read_made : (K : Kind) (L : Layout) (f : Entries) (t : Places) (c x z o : ℕ) → Capacious c → x ≡ c → z ≡ K.zero → o ≡ K.one → Fresh t x z o → Forgotten f
    → Made K L c (model L f opened t)
read_made K L f t c x z o range is_c is_zero is_one new =
    fresh_made K L f t c range (subst (λ y. Fresh t c K.zero y) is_one (subst (λ y. Fresh t c y o) is_zero (subst (λ y. Fresh t y z o) is_c new)))
