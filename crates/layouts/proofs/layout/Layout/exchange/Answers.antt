-- The levels and the places are exchanged as the definition says. Assumes nothing.
use Rattle.std.proofs.Common.{sym, ap, subst₂, ◌∙◌, arith}
use Rattle.std.specs.List.{SwappedAt}
use Rattle.diagrams.specs.Layouts.{laid}
use Rattle.layouts.specs.View.{view}
use Rattle.layouts.proofs.Laying.{mark_read, mark_below, Exchanged, exchanged_plan, exchange_laid, still_marked, still_levelled, still_onto, still_back}
use Rattle.layouts.proofs.layout.Layout.exchange.Goals as goal
use Rattle.layouts.proofs.layout.Layout.exchange.Goals.{After-swap-2}

pub swap-requires : goal.swap-requires
swap-requires c =
    let y = c.args.self.now in
    record {
      a_in_bounds = rw (mark_read y c.args.a _ (omega arith)) (mark_below y c.args.a (omega arith) (omega arith));
      b_in_bounds = rw (mark_read y c.args.b _ (omega arith)) (mark_below y c.args.b (omega arith) (omega arith));
    }

moved : (c : After-swap-2) → Exchanged c.args.self.now c.args.a c.args.b c.swap-2.new.self c.swap.new.self
moved c =
    let y = c.args.self.now in
    record {
      first = omega arith;
      second = omega arith;
      wide_levels = omega arith;
      wide_places = omega arith;
      levels_are = c.swap-2.ensures.by_index;
      places_are =
          subst₂ (SwappedAt y.places c.swap.new.self) (mark_read y c.args.a _ (omega arith)) (mark_read y c.args.b _ (omega arith)) c.swap.ensures.by_index;
    }

pub invariant_of-self : goal.invariant_of-self
invariant_of-self c =
    let y = c.args.self.now in
    record {
      some = y.some;
      most = y.most;
      marked = still_marked y _ _ _ _ (moved c);
      levelled = still_levelled y _ _ _ _ (moved c);
      onto = still_onto y _ _ _ _ (moved c);
      back = still_back y _ _ _ _ (moved c);
    }

pub returns-clause-answer : goal.returns-clause-answer
returns-clause-answer c =
    let y = c.args.self.now in
    ap laid (exchanged_plan y _ _ _ _ (moved (goal.at.returns-clause-answer c).After-swap-2))
    ∙ sym (exchange_laid c.args.a c.args.b (view y) (omega arith) (omega arith))
