use Rattle.mlk_walk_state.proofs.CaseTests.{includes_decides}
use Rattle.mlk_walk_state.proofs.law.includes_decides.Goals as goal

pub returns : goal.returns
returns c = includes_decides
