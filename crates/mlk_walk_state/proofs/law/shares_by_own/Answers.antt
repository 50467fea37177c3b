use Rattle.mlk_walk_state.proofs.Shared.{shares_by_own}
use Rattle.mlk_walk_state.proofs.law.shares_by_own.Goals as goal

pub returns : goal.returns
returns c = shares_by_own
