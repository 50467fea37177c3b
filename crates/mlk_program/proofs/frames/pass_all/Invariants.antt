use Rattle.std.proofs.Common.{take, []}
use Rattle.mlk_syntax.specs.ExprTrees.{actual_trees}
use Rattle.mlk_program.specs.Frames.{Learns, passed_by_list}
use Rattle.mlk_program.proofs.frames.pass_all.Given as goal

abbrev pub invariant-loop-actual : goal.invariant-loop-actual
invariant-loop-actual l = Learns [] (passed_by_list l.part (actual_trees (take l.actual-index l.given))) l.fn.frames l.frames
