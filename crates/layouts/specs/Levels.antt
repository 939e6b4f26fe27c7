-- What stands on the levels of a layout, and where its marks stand, as the code keeps both. Assumes nothing.
use Rattle.std.specs.Prelude.{ℕ, List, slice_index_or}
use Rattle.layouts.specs.declared.form.Form.{Form}
use Rattle.layouts.specs.declared.form.Form.TheVariants.{Shannon}
use Rattle.layouts.specs.declared.level.Level.{Level}

-- A level that stands for itself: it has the mark of its own number, of type Shannon.
abbrev pub plain : ℕ → Level
plain l = record { mark = l; form = Shannon }

-- The mark of a level, by the list of levels; past the list a level stands for itself.
abbrev pub mark_on : List Level → ℕ → ℕ
mark_on levels l = (slice_index_or levels l (plain l)).mark

-- The type of a level, by the list of levels.
abbrev pub form_on : List Level → ℕ → Form
form_on levels l = (slice_index_or levels l (plain l)).form

-- The level of a mark, by the list of places; past the list a mark stands on the level of its own number.
abbrev pub level_of : List ℕ → ℕ → ℕ
level_of places i = slice_index_or places i i
