use Rattle.std.proofs.Common.{◌≡◌, ℕ, ◌<◌, ◌≤◌, length, get_or}
use Rattle.diagrams.specs.Sizes.{tally}
use Rattle.places.specs.Contents.{blank}
use Rattle.places.specs.Keeping.{loose_at, swept}
use Rattle.places.proofs.keep.sweep.Given as goal

abbrev pub invariant-loop-h : goal.invariant-loop-h
invariant-loop-h l = record {
  size : length l.slots ≡ length l.initial.slots;
  below : (k : ℕ) → k < l.h → get_or l.slots k blank ≡ swept (get_or l.initial.slots k blank) (get_or l.marks k 0);
  rest : (k : ℕ) → l.h ≤ k → get_or l.slots k blank ≡ get_or l.initial.slots k blank;
  many : l.freed ≡ tally l.h (loose_at l.initial.slots l.marks);
  most : l.freed ≤ l.h;
}
