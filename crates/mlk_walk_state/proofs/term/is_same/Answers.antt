use Rattle.mlk_walk_state.specs.Terms.{same_term}
use Rattle.mlk_walk_state.proofs.TermTests.{one_test, same_term_decides}
use Rattle.mlk_walk_state.proofs.term.is_same.Goals as goal

pub returns : goal.returns
returns c = one_test c.is_equal.result (same_term c.args.first.now c.args.second.now) c.is_equal.ensures (same_term_decides c.args.first.now c.args.second.now)
