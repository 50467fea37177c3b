use Rattle.mlk_walk_lines.proofs.FewStates.{few_found}
use Rattle.mlk_walk_lines.proofs.conditioned.perform.Goals as goal

pub returns : goal.returns
returns c = few_found c.limit_states.result _ _ c.limit_states.new.self _ _ c.limit_states.ensures c.in_ok-apply_if_true.ensures
