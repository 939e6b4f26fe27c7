use Rattle.std.proofs.Common.{◌≤◌, length}
use Rattle.replay.proofs.reader.Reader.next_command.Given as goal

abbrev pub invariant-loop-text : goal.invariant-loop-text
invariant-loop-text l = length l.self.rest.now ≤ length l.initial.self.rest.now

abbrev pub decreases-loop-text : goal.decreases-loop-text
decreases-loop-text l = length l.self.rest.now
