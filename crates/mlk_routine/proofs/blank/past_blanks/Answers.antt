use Rattle.std.proofs.Common.{◌≡◌, subst}
use Rattle.std.specs.List.{prefix_len}
use Rattle.mlk_routine.specs.RoutineGrammar.{is_blank}
use Rattle.mlk_routine_arguments.proofs.Stretches.{run_found}
use Rattle.mlk_routine.proofs.blank.past_blanks.Goals as goal

pub returns : goal.returns
returns c = run_found is_blank c.args.line.now c.args.at c.blanks.result c.requires (subst (λ l. c.blanks.result ≡ prefix_len is_blank l) c.split_at.ensures.back c.blanks.ensures.value)
