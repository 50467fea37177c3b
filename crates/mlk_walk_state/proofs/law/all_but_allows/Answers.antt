use Rattle.mlk_walk_state.proofs.NameLaws.{all_but_allows}
use Rattle.mlk_walk_state.proofs.law.all_but_allows.Goals as goal

pub returns : goal.returns
returns c = all_but_allows
