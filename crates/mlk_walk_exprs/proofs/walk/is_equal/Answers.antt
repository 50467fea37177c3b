use Rattle.std.proofs.Common.{rules}
use Rattle.mlk_walk_exprs.proofs.StateTests.{state_equal}
use Rattle.mlk_walk_exprs.proofs.walk.is_equal.Goals as goal

pub returns : goal.returns
returns c = search (rules, state_equal)
