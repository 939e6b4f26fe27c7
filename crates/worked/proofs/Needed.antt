-- What a call needs in a layout of one mark: the answers of the call and of its smaller calls. Assumes nothing.
use mathlib.Core.Path.{◌≡◌, refl, sym, ap, subst}
use mathlib.Core.Logic.{◌↔◌}
use mathlib.Core.List.Memᴰ
use mathlib.Core.List.{List, [], ◌∷◌, Memᴰ}
use native.Mathlib.Omega.{arith}
use Rattle.diagrams.specs.Kinds.{Kind}
use Rattle.diagrams.specs.Layouts.{Layout}
use Rattle.diagrams.specs.Diagrams.{Lawful, Diagram}
use Rattle.diagrams.specs.Tasks.{Task, Fit, result}
use Rattle.diagrams.specs.Building.{smaller, Inside, itself, deeper, Needs}
use Rattle.diagrams.proofs.Deeper.{deepens}
use Rattle.diagrams.proofs.Listed.{all_mem}

module _ (K : Kind) (L : Layout) where
  -- The answers of some calls.
  abbrev pub results : List Task → List Diagram
  results [] = []
  results (t ∷ ts) = result K L t ∷ results ts

  -- Those of a call and of its smaller calls.
  abbrev pub needed : Task → List Diagram
  needed task = result K L task ∷ results (smaller K L task)

  among_results : (part : Task) (ts : List Task) → Memᴰ part ts → Memᴰ (result K L part) (results ts)
  among_results part [] m = absurd (Memᴰ.not-nil m)
  among_results part (t ∷ ts) (Memᴰ.head e) = Memᴰ.head (ap (result K L) e)
  among_results part (t ∷ ts) (Memᴰ.tail m) = Memᴰ.tail (among_results part ts m)

  result_of : (d : Diagram) (ts : List Task) → Memᴰ d (results ts) → (t : Task) × Memᴰ t ts × (d ≡ result K L t)
  result_of d [] m = absurd (Memᴰ.not-nil m)
  result_of d (t ∷ ts) (Memᴰ.head e) = (t, Memᴰ.head refl, e)
  result_of d (t ∷ ts) (Memᴰ.tail m) = let r = result_of d ts m in (r.0, Memᴰ.tail r.1, r.2)

  module _ (ok : Lawful K L) (single : L.size ≡ 1) (task : Task) (fit : Fit K L 0 task) where
    inside_listed : (part : Task) → Inside K L task part → Memᴰ (result K L part) (needed task)
    inside_listed part (itself e) = Memᴰ.head (ap (result K L) e)
    inside_listed part (deeper {next = next} m (itself e)) =
        Memᴰ.tail (subst (λ t. Memᴰ (result K L t) (results (smaller K L task))) (sym e) (among_results next (smaller K L task) m))
    inside_listed part (deeper {next = next} m (deeper k i)) =
        let fits = all_mem _ (smaller K L task) (deepens K L ok 0 (omega arith) task fit) m in
        let none = all_mem _ (smaller K L next) (deepens K L ok 1 (omega arith) next fits.1) k in
        absurd (omega (arith, single, none.0))

    pub all_needed : (d : Diagram) → Needs K L task d ↔ Memᴰ d (needed task)
    all_needed d = (λ n. subst (λ x. Memᴰ x (needed task)) (sym n.is) (inside_listed n.part n.inside), back)
      where
        back : Memᴰ d (needed task) → Needs K L task d
        back (Memᴰ.head e) = record { part = task; inside = itself refl; is = e }
        back (Memᴰ.tail m) =
            let r = result_of d (smaller K L task) m in
            record { part = r.0; inside = deeper r.1 (itself refl); is = r.2 }
