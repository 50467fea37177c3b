use Rattle.mlk_walk_state.proofs.TermTests.{rank_is}
use Rattle.mlk_walk_state.proofs.term.rank.Goals as goal

pub returns : goal.returns
returns c = rank_is c.args.rules.now.families c.args.term.now c.rank_of.result c.rank_of.ensures
