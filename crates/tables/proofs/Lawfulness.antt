-- The kind and the layout of a table of the code are lawful. Assumes nothing.
use Rattle.diagrams.specs.Kinds.{Kind, Laws}
use Rattle.diagrams.specs.Diagrams.{Lawful}
use Rattle.layouts.specs.declared.layout.Layout.{Layout}
use Rattle.layouts.specs.View.{view}
use Rattle.layouts.proofs.Laying.{layout_valid}

pub lawful : {K : Kind} → Laws K → (layout : Layout) → Lawful K (view layout)
lawful laws layout = record { laws = laws; valid = layout_valid layout }
