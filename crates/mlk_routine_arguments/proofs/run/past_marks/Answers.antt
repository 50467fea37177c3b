use Rattle.std.proofs.Common.{◌≡◌, subst}
use Rattle.std.specs.List.{prefix_len}
use Rattle.mlk_routine_arguments.specs.CommandGrammar.{is_mark}
use Rattle.mlk_routine_arguments.proofs.Stretches.{run_found}
use Rattle.mlk_routine_arguments.proofs.run.past_marks.Goals as goal

pub returns : goal.returns
returns c = run_found is_mark c.args.line.now c.args.at c.marks.result c.requires (subst (λ l. c.marks.result ≡ prefix_len is_mark l) c.split_at.ensures.back c.marks.ensures.value)
