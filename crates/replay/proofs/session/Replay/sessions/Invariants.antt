use Rattle.std.proofs.Common.{length}
use Rattle.replay.proofs.session.Replay.sessions.Given as goal

abbrev pub decreases-loop-after : goal.decreases-loop-after
decreases-loop-after l = length l.self.reader.rest.now
