use Rattle.mlk_walk_state.specs.States.{same_state}
use Rattle.mlk_walk_state.proofs.TermTests.{one_test}
use Rattle.mlk_walk_state.proofs.CaseTests.{same_decides}
use Rattle.mlk_walk_exprs.proofs.walk.is_same.Goals as goal

pub returns : goal.returns
returns c = one_test c.is_equal.result (same_state c.args.state.now c.args.other.now) c.is_equal.ensures
    (same_decides.states c.args.state.now c.args.other.now)
