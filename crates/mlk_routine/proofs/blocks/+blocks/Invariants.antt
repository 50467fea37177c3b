use Rattle.std.proofs.Common.{map, length, ◌*◌, ◌+◌}
use Rattle.mlk_syntax.specs.Views.{line_of}
use Rattle.mlk_routine.specs.Lines.{head_of}
use Rattle.mlk_routine.proofs.UnderHeads.{BlocksSoFar}
use Rattle.mlk_routine.proofs.blocks.+blocks.Given as goal

abbrev pub decreases-block : goal.decreases-block
decreases-block l = 2 * length (map head_of l.lines.now.items)

abbrev pub decreases-block_under : goal.decreases-block_under
decreases-block_under l = 2 * length (map head_of l.lines.now.items) + 1

abbrev pub invariant-block-loop-line : goal.invariant-block-loop-line
invariant-block-loop-line l = BlocksSoFar l.level (map head_of l.fn.lines.items) (map line_of l.found.items) (map head_of l.lines.items)

abbrev pub decreases-block-loop-line : goal.decreases-block-loop-line
decreases-block-loop-line l = length (map head_of l.lines.items)
