use Rattle.std.proofs.Common.{take, []}
use Rattle.mlk_syntax.specs.ExprTrees.{actual_trees}
use Rattle.mlk_program.specs.Frames.{Learns, filled_by_list}
use Rattle.mlk_program.proofs.frames.fill_all.Given as goal

abbrev pub invariant-loop-i : goal.invariant-loop-i
invariant-loop-i l = Learns (filled_by_list l.entry l.formals (actual_trees (take l.i l.given))) [] l.fn.frames l.frames
