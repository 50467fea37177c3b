use Rattle.std.proofs.Common.{◌+◌, ◌*◌}
use Rattle.mlk_walk.proofs.PartSizes.{lines_in}
use Rattle.mlk_walk.proofs.parts.+split.Given as goal

abbrev pub decreases-walk_one : goal.decreases-walk_one
decreases-walk_one g l = 8 * (l.depth + lines_in l.part.lines.now) + 1

abbrev pub decreases-walk_part : goal.decreases-walk_part
decreases-walk_part g l = 8 * (l.depth + lines_in l.part.lines.now) + 2

abbrev pub decreases-walk_both-front : goal.decreases-walk_both-front
decreases-walk_both-front g l = 8 * (l.depth + lines_in l.first.lines.now) + 3

abbrev pub decreases-walk_both-back : goal.decreases-walk_both-back
decreases-walk_both-back g l = 8 * (l.depth + lines_in l.second.lines.now) + 3

abbrev pub decreases-walk_both : goal.decreases-walk_both
decreases-walk_both g l = 8 * (l.depth + (lines_in l.first.lines.now + lines_in l.second.lines.now)) + 4

abbrev pub decreases-walk_halves : goal.decreases-walk_halves
decreases-walk_halves g l = 8 * (l.depth + lines_in l.part.lines.now) + 5
