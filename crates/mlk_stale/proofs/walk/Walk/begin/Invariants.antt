use Rattle.std.proofs.Common.{length}
use Rattle.mlk_stale.proofs.walk.Walk.begin.Given as goal

abbrev pub decreases-loop-at : goal.decreases-loop-at
decreases-loop-at l = length l.self.branched.items
