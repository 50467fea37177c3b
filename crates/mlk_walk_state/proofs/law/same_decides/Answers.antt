use Rattle.mlk_walk_state.proofs.CaseTests.{same_decides}
use Rattle.mlk_walk_state.proofs.law.same_decides.Goals as goal

pub returns : goal.returns
returns c = same_decides
