-- The types of levels as the code has them. Assumes nothing.
use Rattle.std.specs.Prelude.{ℕ, cond, Ok, Err, Result, ◌==◌}
use Rattle.diagrams.specs.Layouts.{Decomposition, shannon, positive, negative}
use Rattle.refusals.specs.declared.refusal.Refusal.{Refusal}
use Rattle.refusals.specs.declared.refusal.Refusal.TheVariants.{NoSuchType}
use Rattle.layouts.specs.declared.form.Form.{Form}
use Rattle.layouts.specs.declared.form.Form.TheVariants.{Shannon, PositiveDavio, NegativeDavio}

-- The decomposition that a type means.
abbrev pub decomposition : Form → Decomposition
decomposition Shannon = shannon
decomposition PositiveDavio = positive
decomposition NegativeDavio = negative

-- The type of a number from 0 to 2, refused elsewhere.
abbrev pub formed : ℕ → Result Form Refusal
formed n = cond (n == 0) (Ok Shannon) (cond (n == 1) (Ok PositiveDavio) (cond (n == 2) (Ok NegativeDavio) (Err NoSuchType)))
