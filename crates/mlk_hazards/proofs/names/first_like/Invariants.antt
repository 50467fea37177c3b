use Rattle.std.proofs.Common.{length}
use Rattle.mlk_hazards.proofs.names.first_like.Given as goal

abbrev pub decreases-loop-name : goal.decreases-loop-name
decreases-loop-name l = length l.left
