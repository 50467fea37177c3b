use Rattle.mlk_walk_state.specs.Cases.{same_own}
use Rattle.mlk_walk_state.proofs.TermTests.{one_test}
use Rattle.mlk_walk_state.proofs.CaseTests.{own_decides}
use Rattle.mlk_walk_state.proofs.names.is_same_own.Goals as goal

pub returns : goal.returns
returns c = one_test c.is_equal_own.result (same_own c.args.first.now c.args.second.now) c.is_equal_own.ensures (own_decides c.args.first.now c.args.second.now)
