use Rattle.std.proofs.Common.{◌≡◌, true, false}
use Rattle.mlk_syntax.specs.ExprTrees.{tree_of}
use Rattle.mlk_walk_state.specs.Scope.{scope_of}
use Rattle.mlk_walk_exprs.specs.Expressions.{where_it_may_be}
use Rattle.mlk_walk_exprs.proofs.condition.split_by.Given as goal

abbrev pub invariant-loop-state : goal.invariant-loop-state
invariant-loop-state l = (l.sides.holds ≡ where_it_may_be true (scope_of l.spot.scope.now) (tree_of l.condition) l.yielded)
    × (l.sides.fails ≡ where_it_may_be false (scope_of l.spot.scope.now) (tree_of l.condition) l.yielded)
