use Rattle.std.proofs.Common.{drop, refl, ap, ◌∙◌, add-one}
use Rattle.mlk_routine_arguments.specs.Ends.{is_command_end}
use Rattle.mlk_routine_arguments.proofs.Stopping.{bare_space}
use Rattle.mlk_routine_arguments.proofs.spacing.is_bare.Goals as goal

pub returns-then-has_byte : goal.returns-then-has_byte
returns-then-has_byte c =
    c.is_command_end.ensures ∙ ap (λ n. is_command_end (drop n c.args.line.now)) (add-one c.args.at)
    ∙ bare_space c.args.line.now c.args.at (c.if-has_byte.ensures.yes refl)
