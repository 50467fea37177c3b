use Rattle.mlk_walk_state.proofs.HeldTerms.{held_are}
use Rattle.mlk_walk_state.proofs.law.held_are.Goals as goal

pub returns : goal.returns
returns c = held_are
