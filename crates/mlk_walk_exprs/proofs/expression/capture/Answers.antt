use Rattle.std.proofs.Common.{◌<◌, length, rules}
use Rattle.mlk_syntax.specs.ExprTrees.{tree_of}
use Rattle.mlk_walk_state.specs.Scope.{scope_of}
use Rattle.mlk_walk_exprs.specs.Expressions.{with_symbol_of}
use Rattle.mlk_walk_exprs.proofs.InPlace.{changed_step}
use Rattle.mlk_walk_exprs.proofs.expression.capture.Goals as goal

pub loop-state-preserved : goal.loop-state-preserved
loop-state-preserved c =
    let low : c.loop-state.state-index < length c.loop-state.state-items = search rules in (
      c.loop-state.invariant.0,
      changed_step (with_symbol_of (scope_of c.args.spot.now.scope.now) (tree_of c.args.expression.now)) c.args.walk.now.going
          c.loop-state.state-items c.loop-state.state-index c.state-item.result _ low c.loop-state.invariant.1
          c.in_ok-capture_value.ensures,
    )
