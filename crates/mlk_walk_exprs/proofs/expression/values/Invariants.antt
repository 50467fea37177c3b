use Rattle.std.proofs.Common.{◌≡◌, drop}
use Rattle.mlk_syntax.specs.ExprTrees.{trees}
use Rattle.mlk_walk_exprs.specs.Spots.{spot_of}
use Rattle.mlk_walk_exprs.specs.Expressions.{values}
use Rattle.mlk_walk_exprs.proofs.expression.values.Given as goal

abbrev pub invariant-loop-expression : goal.invariant-loop-expression
invariant-loop-expression l = values (spot_of l.spot) (trees (drop l.expression-index l.expressions)) l.walk
    ≡ values (spot_of l.spot) (trees l.fn.expressions) l.fn.walk
