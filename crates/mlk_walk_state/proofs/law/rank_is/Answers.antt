use Rattle.mlk_walk_state.proofs.TermTests.{rank_decides}
use Rattle.mlk_walk_state.proofs.law.rank_is.Goals as goal

pub returns : goal.returns
returns c = rank_decides
