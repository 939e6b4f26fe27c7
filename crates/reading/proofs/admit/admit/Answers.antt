use Rattle.std.proofs.Common.{length, ap, ◌∙◌, arith}
use Rattle.diagrams.specs.Diagrams.{Lawful}
use Rattle.layouts.specs.View.{view}
use Rattle.layouts.proofs.Laying.{layout_valid}
use Rattle.reading.proofs.Heading.{body_length, suits}
use Rattle.reading.proofs.admit.admit.Goals as goal

pub slice_bounds-expected-count : goal.slice_bounds-expected-count
slice_bounds-expected-count g c =
    omega (arith, body_length g.K.Value.kind (view c.args.layout.now), ap length (c.as_slice-2.ensures.value ∙ c.head_of-head.ensures), c.size.ensures)

pub slice_bounds-expected-start : goal.slice_bounds-expected-start
slice_bounds-expected-start g c =
    omega (arith, body_length g.K.Value.kind (view c.args.layout.now), ap length (c.as_slice-2.ensures.value ∙ c.head_of-head.ensures), c.size.ensures)

pub check-requires : goal.check-requires
check-requires g c =
    let K = g.K.Value.kind in
    let L = view c.args.layout.now in
    let ok : Lawful K L = record { laws = g.K.Value.laws; valid = layout_valid c.args.layout.now } in
    record {
      suits = (
        L,
        suits K L ok c.args.limit c.requires.few c.as_slice.result.now c.as_slice-2.result.now c.put_head-end.new.out c.size.result c.put_head-end.result
            (c.as_slice.ensures.value ∙ c.head_of-head.ensures) (c.as_slice-2.ensures.value ∙ c.head_of-head.ensures) c.size.ensures c.put_head-end.ensures.bytes c.put_head-end.ensures.after,
      );
      room = c.requires.room;
    }

pub returns : goal.returns
returns g c =
    let K = g.K.Value.kind in
    let L = view c.args.layout.now in
    let ok : Lawful K L = record { laws = g.K.Value.laws; valid = layout_valid c.args.layout.now } in
    record {
      answer = c.check.ensures.answer L
          (suits K L ok c.args.limit c.requires.few c.as_slice.result.now c.as_slice-2.result.now c.put_head-end.new.out c.size.result c.put_head-end.result
          (c.as_slice.ensures.value ∙ c.head_of-head.ensures) (c.as_slice-2.ensures.value ∙ c.head_of-head.ensures) c.size.ensures c.put_head-end.ensures.bytes c.put_head-end.ensures.after);
      past = c.check.ensures.past;
    }
