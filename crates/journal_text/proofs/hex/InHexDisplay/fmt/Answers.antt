use Rattle.std.proofs.Common.{◌++◌, refl, ◌∙◌, rules}
use Rattle.std.proofs.lemmas.Grind.{put_two}
use Rattle.std.specs.Slice.Iter.{chunks_rest}
use Rattle.journal_text.specs.Hex.{digits}
use Rattle.journal_text.specs.Scans.{Shows}
use Rattle.journal_text.proofs.Pairs.{chunk_written}
use Rattle.journal_text.proofs.hex.InHexDisplay.fmt.Goals as goal

pub loop-chunk-preserved : goal.loop-chunk-preserved
loop-chunk-preserved g c =
    let step = c.in-Some.ensures.steps in
    let chunk = c.in-Some.chunk.now in
    let text = c.text.result.now in
    let out = c.loop-chunk.invariant.out in
    let shows : Shows (digits chunk) text = rw (← c.chunk_digits.ensures, ← c.deref.ensures.0) c.text.ensures in
    let so_far = rw step.1.0 at c.loop-chunk.invariant.so_far in
    record {
      size = step.0 ∙ c.loop-chunk.invariant.size;
      out = out ++ text;
      so_far = chunk_written _ out chunk (chunks_rest c.next.new.self) text shows so_far;
      written = λ plain. put_two _ _ c.loop-chunk.f _ out text _ (c.loop-chunk.invariant.written plain) (search rules) refl;
    }
