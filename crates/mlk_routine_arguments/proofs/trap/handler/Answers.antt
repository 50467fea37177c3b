use Rattle.std.proofs.Common.{sym, ◌∙◌, subst}
use Rattle.std.specs.Prelude.{option_map}
use Rattle.mlk_syntax.specs.Views.{call_of}
use Rattle.mlk_routine_arguments.specs.TrapParts.{IsRestartIn}
use Rattle.mlk_routine_arguments.proofs.Traps.{unhandled}
use Rattle.mlk_routine_arguments.proofs.trap.handler.Goals as goal

pub returns-in_default : goal.returns-in_default
returns-in_default c at place =
    unhandled at c.args.code.now (sym c.is_ending.ensures ∙ c.if-is_ending.false)
    (subst (λ o. IsRestartIn at c.args.code.now (option_map call_of o)) c.in_default.is (c.in_ok-call.ensures at place))
