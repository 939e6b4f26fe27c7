-- What combining and restricting handles does to the places and the store of a table. Assumes nothing.
use Rattle.std.specs.Prelude.{◌≡◌, ℕ, false, [], ◌∷◌, Some, None, Option}
use Rattle.diagrams.specs.Kinds.{Kind}
use Rattle.diagrams.specs.Layouts.{Layout}
use Rattle.diagrams.specs.Diagrams.{Lawful, Diagram}
use Rattle.diagrams.specs.Tasks.{Operation, Task, combine, result}
use Rattle.diagrams.specs.Building.{shortcut}
use Rattle.diagrams.specs.Places.{Stands}
use Rattle.histories.specs.Stores.{Key, Entries, Offered}
use Rattle.histories.specs.Tables.{Phase, Model, StandsFor, Outnumber}
use Rattle.histories.specs.Steps.{PlacesStay, EntriesStay, Needed, Worked}
use Rattle.histories.proofs.Sound.{Sound}
use Rattle.places.specs.declared.places.Places.{Places}
use Rattle.places.specs.Tables.{holds, Under, Extends}
use Rattle.building.specs.declared.quick.Answer.{Answer}
use Rattle.building.specs.declared.quick.Answer.TheVariants.{Handle, Value}
use Rattle.building.specs.Work.{model}
use Rattle.building.specs.Operations.{combine_key}
use Rattle.building.specs.Parts.{NoHigher}
use Rattle.building.specs.Shortcuts.{floor, Quickly}

module _ (K : Kind) (L : Layout) where
  module _ (task : Task) (key : Key) where
    -- A call with that key brought the handle h, from the table m to n.
    pub record BroughtBack (m n : Model) (h : ℕ) : Type 0 where
      pub stands : StandsFor n (result K L task) h
      pub worked : Worked K L m (task ∷ []) n
      -- After a call that is no shortcut the store answers its key.
      pub stored : shortcut K L task ≡ false → n.entries key ≡ Some h
      -- If it did so before, table and store are untouched.
      pub hit : (g : ℕ) → shortcut K L task ≡ false → m.entries key ≡ Some g → (h ≡ g) × PlacesStay m n × EntriesStay m n

    -- It brought a handle, or there was no room for what it needs.
    abbrev pub Finished : Model → Model → Option ℕ → Type 0
    Finished m n None = Outnumber m (Needed K L (task ∷ []))
    Finished m n (Some h) = BroughtBack m n h

    -- The same from the places t to u and from the entries f to g, of whatever sound table they are.
    abbrev pub Ended : Places → Places → Entries → Entries → Option ℕ → Type 0
    Ended t u f g r = (phase : Phase) → Sound K L (model L f phase t) → Finished (model L f phase t) (model L g phase u) r

  -- What combining the handles a and b did: places in use stay, the answer stands no higher than a and b, and the call is done.
  pub record Combined (o : Operation) (a b : ℕ) (t u : Places) (f g : Entries) (r : Option ℕ) : Type 0 where
    pub kept : Extends t u
    pub inside : NoHigher u (floor t a b) r
    pub done : Lawful K L → (d e : Diagram) → Stands (holds t) d a → Stands (holds t) e b → Ended (combine o d e) (combine_key o a b) t u f g r

-- A combination of a and b has no shortcut, and the store has no answer to trust.
pub record Unknown (K : Kind) (o : Operation) (a b : ℕ) (t : Places) (f : Entries) : Type 0 where
  pub split : Quickly K t o a b None
  pub missed : (x : ℕ) → f (combine_key o a b) ≡ Some x → Under t (floor t a b) x → ⊥

-- What is known of a combination before it splits: its answer, or a value whose leaf is the answer, if a shortcut or the store has one.
abbrev pub Known : Kind → Operation → ℕ → ℕ → Places → Entries → Option Answer → Type 0
Known K o a b t f (Some (Handle h)) = (L : Layout) → Combined K L o a b t t f f (Some h)
Known K o a b t f (Some (Value v)) = Quickly K t o a b (Some (Value v))
Known K o a b t f None = Unknown K o a b t f

-- What the store is offered at the end: the answer, if there is one.
abbrev pub Closed : Entries → Entries → Key → Option ℕ → Type 0
Closed f g k None = (j : Key) → g j ≡ f j
Closed f g k (Some h) = Offered f g k h
