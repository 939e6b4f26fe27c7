use Rattle.std.proofs.Common.{◌≤◌, length}
use Rattle.replay.proofs.session.Replay.serve.Given as goal

abbrev pub invariant-loop-table : goal.invariant-loop-table
invariant-loop-table g l = length l.self.reader.rest.now ≤ length l.initial.self.reader.rest.now

abbrev pub decreases-loop-table : goal.decreases-loop-table
decreases-loop-table g l = length l.self.reader.rest.now
