-- How a sweep leaves an open table. Assumes nothing.
use Rattle.std.specs.Prelude.{◌≡◌, ℕ, List, Ok, Err, Result}
use Rattle.histories.specs.Stores.{Entries, Forgotten}
use Rattle.refusals.specs.declared.refusal.Refusal.{Refusal}
use Rattle.walks.specs.Walks.{Sweeping}
use Rattle.tables.specs.declared.open.Open.{Open}

module _ {K S : Type 0} (entries : S → Entries) (before after : Open K S) where
  -- The store has forgotten where the sweep is accepted; it stays where the sweep is refused.
  abbrev pub Emptied : Result ℕ Refusal → Type 0
  Emptied (Ok freed) = Forgotten (entries after.store)
  Emptied (Err e) = after.store ≡ before.store

  -- The places are swept with a walk list, and the layout stays.
  pub record Cleaned (walk : List ℕ) (r : Result ℕ Refusal) : Type 0 where
    pub layout : after.layout ≡ before.layout
    pub places : Sweeping before.places after.places walk r
    pub store : Emptied r
