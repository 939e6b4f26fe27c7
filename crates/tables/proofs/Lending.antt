-- A lent walk list, as the code and the specification see it. Assumes nothing.
use Rattle.std.proofs.Common.{◌≡◌, ℕ, ◌<◌, ◌≤◌, List, length, sym, ap, ◌∙◌, subst, arith}
use Rattle.diagrams.specs.Layouts.{Layout as Plan}
use Rattle.histories.specs.Stores.{Entries}
use Rattle.histories.specs.Tables.{Phase, Model, capacity}
use Rattle.histories.specs.Steps.{wiped}
use Rattle.places.specs.declared.places.Places.{Places}
use Rattle.building.specs.Work.{model}
use Rattle.building.proofs.Seeing.{seen_room}

module _ (L : Plan) (f : Entries) (p : Phase) (t : Places) (walk : List ℕ) where
  abbrev m : Model
  m = model L f p t

  pub seen_wiped : (left : List ℕ) → left ≡ wiped t.capacity walk → left ≡ wiped (capacity m) walk
  seen_wiped left list = list ∙ ap (λ c. wiped c walk) (sym (seen_room L f p t))

  pub too_short : length walk < t.capacity → length walk < capacity m
  too_short short = subst (λ c. length walk < c) (sym (seen_room L f p t)) short

  pub long_enough : t.capacity ≤ length walk → ¬ (length walk < capacity m)
  long_enough long short = omega (arith, seen_room L f p t)
