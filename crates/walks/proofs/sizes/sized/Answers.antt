use Rattle.std.proofs.Common.{sym, ◌∙◌, subst}
use Rattle.diagrams.specs.Places.{Stands}
use Rattle.places.specs.Tables.{holds}
use Rattle.walks.proofs.NodeCounts.{count_extent}
use Rattle.walks.proofs.sizes.sized.Goals as goal

pub returns-clause-answer : goal.returns-clause-answer
returns-clause-answer c = λ walk long.
    let t = c.args.places.now in
    let live = rw c.in_ok-place.ensures.ok_part at c.live.ensures in (
      live.1,
      long,
      λ d p. c.nodes.ensures ∙ count_extent t _ _ d (c.reach-order.ensures.walked d (subst (Stands (holds t) d) (sym live.0) p)),
    )
