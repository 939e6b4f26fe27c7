use Rattle.building.proofs.Marking.{reading, works_no_low, works_no_high, works_node}
use Rattle.building.proofs.simple.mark.Goals as goal

pub returns-in_err-low : goal.returns-in_err-low
returns-in_err-low g c =
    let read = reading _ _ _ _ _ _ _ c.level-level.ensures c.form.ensures c.leaf_words-low.ensures.low c.leaf_words-low.ensures.high in
    rw c.from_residual.ensures (works_no_low _ _ _ _ _ _ read c.in_err-low.ensures)

pub returns-in_err-high : goal.returns-in_err-high
returns-in_err-high g c =
    let read = reading _ _ _ _ _ _ _ c.level-level.ensures c.form.ensures c.leaf_words-low.ensures.low c.leaf_words-low.ensures.high in
    rw c.from_residual-in_err-high.ensures (works_no_high _ _ _ _ _ _ read c.in_ok-low.ensures c.in_err-high.ensures)

pub returns : goal.returns
returns g c =
    let read = reading _ _ _ _ _ _ _ c.level-level.ensures c.form.ensures c.leaf_words-low.ensures.low c.leaf_words-low.ensures.high in
    works_node _ _ _ _ _ _ read c.in_ok-low.ensures c.in_ok-high.ensures _ _ c.node.ensures
