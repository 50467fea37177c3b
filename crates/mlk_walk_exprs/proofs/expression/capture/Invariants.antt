use Rattle.std.proofs.Common.{◌≡◌, []}
use Rattle.mlk_syntax.specs.ExprTrees.{tree_of}
use Rattle.mlk_walk_state.specs.Scope.{scope_of}
use Rattle.mlk_walk_exprs.specs.Walks.{with_states}
use Rattle.mlk_walk_exprs.specs.Expressions.{with_symbol_of}
use Rattle.mlk_walk_exprs.proofs.InPlace.{changed_to}
use Rattle.mlk_walk_exprs.proofs.expression.capture.Given as goal

abbrev pub invariant-loop-state : goal.invariant-loop-state
invariant-loop-state l = (l.walk ≡ with_states [] l.fn.walk)
    × (l.state-items ≡ changed_to (with_symbol_of (scope_of l.spot.scope.now) (tree_of l.expression)) l.state-index l.fn.walk.going)
