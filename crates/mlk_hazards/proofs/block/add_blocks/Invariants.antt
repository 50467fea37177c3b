use Rattle.std.proofs.Common.{length}
use Rattle.mlk_hazards.proofs.block.add_blocks.Given as goal

abbrev pub decreases-loop-head : goal.decreases-loop-head
decreases-loop-head l = length l.left
