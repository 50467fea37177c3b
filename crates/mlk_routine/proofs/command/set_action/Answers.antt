use Rattle.std.proofs.Common.{map, sym, ◌∙◌}
use Rattle.std.proofs.lemmas.Result.{err_from_is_err_and}
use Rattle.mlk_syntax.specs.Views.{action_of, set_of}
use Rattle.mlk_routine_arguments.proofs.Sequences.{turned_found, turned_denied, turned_told}
use Rattle.mlk_routine.proofs.Doing.{set_turned, trap_turned}
use Rattle.mlk_routine.proofs.command.set_action.Goals as goal

pub returns-then-sets_trap : goal.returns-then-sets_trap
returns-then-sets_trap c =
    turned_told (trap_turned c.args.manner.dialect c.args.manner.returns c.args.line.now c.args.at (sym c.sets_trap.ensures ∙ c.if-sets_trap.true)) c.trap_action.result action_of c.trap_action.ensures

pub returns-in_err-arguments : goal.returns-in_err-arguments
returns-in_err-arguments c =
    let p = err_from_is_err_and c.from_residual.result c.from_residual.ensures.1 in
    rw (p.1, p.2) (turned_denied (set_turned c.args.manner.dialect c.args.manner.returns c.args.line.now c.args.at (sym c.sets_trap.ensures ∙ c.if-sets_trap.false)) c.in_err-arguments.field-0.0 c.in_err-arguments.ensures)

pub returns : goal.returns
returns c =
    turned_found (set_turned c.args.manner.dialect c.args.manner.returns c.args.line.now c.args.at (sym c.sets_trap.ensures ∙ c.if-sets_trap.false)) (map set_of c.in_ok-arguments.arguments.items) c.in_ok-arguments.next c.in_ok-arguments.ensures
