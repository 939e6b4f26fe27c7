-- The layout that the code's record means, and what the calls on it tell. Assumes nothing.
use Rattle.std.specs.Prelude.{ℕ, List, Ok, Err, Result}
use Rattle.diagrams.specs.Layouts.{Setting, laid, denied, Layout as Plan}
use Rattle.refusals.specs.Refusals.{number}
use Rattle.refusals.specs.declared.refusal.Refusal.{Refusal}
use Rattle.layouts.specs.Forms.{decomposition}
use Rattle.layouts.specs.Levels.{mark_on, form_on, level_of}
use Rattle.layouts.specs.declared.layout.Layout.{Layout}
use Rattle.layouts.specs.declared.level.Level.{Level}

-- The layout of a size, what stands on each level, and the level of each mark. Past the lists a level's mark and a mark's level are
-- their own numbers.
abbrev pub arranged : ℕ → List Level → List ℕ → Plan
arranged size levels places = record {
  size = size;
  mark = λ l. mark_on levels l;
  level = λ i. level_of places i;
  type = λ l. decomposition (form_on levels l);
}

-- The layout that the code's record means.
abbrev pub view : Layout → Plan
view y = arranged y.size y.levels y.places

-- What a call that sets up a layout tells: the layout that there is after it, or the number of the refusal.
abbrev pub told : {X : Type 0} → (X → Plan) → Result X Refusal → Setting
told after (Ok x) = laid (after x)
told after (Err e) = denied (number e)
