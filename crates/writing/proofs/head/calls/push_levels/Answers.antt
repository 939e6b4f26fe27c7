use Rattle.std.proofs.Common.{[], ◌∷◌, length, ap, ◌∙◌, arith, length-append}
use Rattle.writing.specs.Heads.{head_bytes}
use Rattle.writing.proofs.Levels.{level_more}
use Rattle.writing.proofs.head.calls.push_levels.Goals as goal

pub loop-level-preserved : goal.loop-level-preserved
loop-level-preserved g c = (
  λ f says.
      c.push.ensures.items
      ∙ level_more (head_bytes c.args.head.now) _ c.loop-level.level f (c.loop-level.invariant.0 f says) c.byte.result (says _ _ c.byte.ensures),
  omega (arith, c.loop-level.invariant.1, ap length c.push.ensures.items ∙ length-append (head_bytes c.loop-level.head) (c.byte.result ∷ [])),
)
