use Rattle.std.proofs.Common.{◌≡◌, subst}
use Rattle.std.specs.List.{prefix_len}
use Rattle.mlk_routine_arguments.specs.CommandGrammar.{is_space}
use Rattle.mlk_routine_arguments.proofs.Stretches.{run_found}
use Rattle.mlk_routine_arguments.proofs.run.past_spaces.Goals as goal

pub returns : goal.returns
returns c = run_found is_space c.args.line.now c.args.at c.spaces.result c.requires (subst (λ l. c.spaces.result ≡ prefix_len is_space l) c.split_at.ensures.back c.spaces.ensures.value)
