use Rattle.mlk_rules.specs.Computed.{is_prefix}
use Rattle.mlk_rules.proofs.Computing.{prefix_decides}
use Rattle.mlk_walk_state.proofs.TermTests.{one_test}
use Rattle.mlk_walk_state.proofs.term.is_prefix.Goals as goal

pub returns : goal.returns
returns c = one_test c.prefix.result (is_prefix c.args.first.now c.args.second.now) c.prefix.ensures.exact (prefix_decides c.args.first.now c.args.second.now)
