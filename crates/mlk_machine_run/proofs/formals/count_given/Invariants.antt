use Rattle.std.proofs.Common.{◌≡◌, ◌+◌, ◌≤◌, length}
use Rattle.mlk_syntax.specs.ExprTrees.{actual_trees}
use Rattle.mlk_machine_jobs.specs.Calling.{count_given}
use Rattle.mlk_machine_run.proofs.formals.count_given.Given as goal

abbrev pub invariant-loop-actual : goal.invariant-loop-actual
invariant-loop-actual l = (l.count + count_given (actual_trees l.left) ≡ count_given (actual_trees l.fn.given))
    × (l.count + length l.left ≤ length l.fn.given)

abbrev pub decreases-loop-actual : goal.decreases-loop-actual
decreases-loop-actual l = length l.left
