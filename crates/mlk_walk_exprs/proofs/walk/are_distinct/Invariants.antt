use Rattle.std.proofs.Common.{◌≡◌, [], length}
use Rattle.mlk_walk_exprs.specs.Walks.{put_states}
use Rattle.mlk_walk_exprs.proofs.walk.are_distinct.Given as goal

abbrev pub invariant-loop-last : goal.invariant-loop-last
invariant-loop-last l = put_states l.left [] ≡ l.left → put_states l.states [] ≡ l.states

abbrev pub decreases-loop-last : goal.decreases-loop-last
decreases-loop-last l = length l.left
