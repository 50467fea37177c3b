use Rattle.std.proofs.Common.{◌≡◌, ◌-◌, ◌+◌, length, drop, true, None, sym, ap, ◌∙◌, subst, arith}
use Rattle.std.specs.Prelude.{option_map}
use Rattle.mlk_text.specs.Places.{column_at}
use Rattle.mlk_syntax.specs.Views.{action_of}
use Rattle.mlk_routine_arguments.specs.PartsRead.{Found}
use Rattle.mlk_routine_arguments.specs.Ends.{is_command_end, TrapEnds}
use Rattle.mlk_routine_arguments.specs.Traps.{IsHandler, IsTrap}
use Rattle.mlk_routine_arguments.specs.TrapParts.{trap_value, IsHandlerIn}
use Rattle.mlk_routine_arguments.proofs.Outcomes.{denies}
use Rattle.mlk_routine_arguments.proofs.Traps.{no_trap, unquoted_trap, unended_trap, trap_found, unhandled_trap, trap_rest}
use Rattle.mlk_routine_arguments.proofs.trap.trap_action.Goals as goal

pub returns-in_default : goal.returns-in_default
returns-in_default c =
    denies IsTrap TrapEnds c.args.line.now c.args.at c.leaves_out.result (c.leaves_out.ensures.fault c.args.line.now c.requires)
    (no_trap c.args.line.now c.args.at TrapEnds (ap trap_value (sym c.split_at.ensures.back) ∙ sym c.in_default.ensures))

pub returns-in_default-quoted_code : goal.returns-in_default-quoted_code
returns-in_default-quoted_code c =
    let start = c.saturating_sub-start.ensures in
    denies IsTrap TrapEnds c.args.line.now c.args.at c.leaves_out-in_default-quoted_code.result (c.leaves_out-in_default-quoted_code.ensures.fault c.args.line.now (omega (arith, start)))
    (unquoted_trap c.args.line.now c.args.at 61 c.in-Some.value.now (ap trap_value (sym c.split_at.ensures.back) ∙ sym c.in-Some.ensures) TrapEnds (sym c.in_default-quoted_code.ensures))

pub returns-then-not-is_command_end : goal.returns-then-not-is_command_end
returns-then-not-is_command_end c =
    let line = c.args.line.now in
    let at = c.args.at in
    let value = c.in-Some.value.now in
    let code = c.in-Some-quoted_code.code.now in
    let rest = c.in-Some-quoted_code.rest.now in
    let one = ap trap_value (sym c.split_at.ensures.back) ∙ sym c.in-Some.ensures in
    let two = sym c.in-Some-quoted_code.ensures in
    let start = c.saturating_sub-start.ensures in
    let after = ap (λ n. drop n line) c.saturating_sub-next.ensures ∙ trap_rest line at 61 value one code rest two in
    let ends = c.is_command_end.ensures ∙ ap is_command_end after in
    denies IsTrap TrapEnds line at c.leaves_out-then-not-is_command_end.result (c.leaves_out-then-not-is_command_end.ensures.fault line (omega (arith, start)))
    (unended_trap line at 61 value one code rest two (λ bad. cc (sym c.if-not-is_command_end.true ∙ ends ∙ bad)))

pub returns-in-Some-2 : goal.returns-in-Some-2
returns-in-Some-2 c =
    let line = c.args.line.now in
    let at = c.args.at in
    let value = c.in-Some.value.now in
    let code = c.in-Some-quoted_code.code.now in
    let rest = c.in-Some-quoted_code.rest.now in
    let one = ap trap_value (sym c.split_at.ensures.back) ∙ sym c.in-Some.ensures in
    let two = sym c.in-Some-quoted_code.ensures in
    let after = ap (λ n. drop n line) c.saturating_sub-next.ensures ∙ trap_rest line at 61 value one code rest two in
    let ends : is_command_end rest ≡ true = sym (c.is_command_end.ensures ∙ ap is_command_end after) ∙ c.if-not-is_command_end.false in
    let place = c.at.ensures ∙ ap (λ n. column_at (n + 1)) c.saturating_sub-start.ensures in
    let read = c.in_ok-action.ensures (length line - length value + 1) place in
    let handles : IsHandler (length line - length value + 1) (action_of c.in-Some-2.action) code = subst (λ o. IsHandlerIn (length line - length value + 1) code (option_map action_of o)) c.in-Some-2.is read in
    subst (λ n. Found IsTrap TrapEnds line at (action_of c.in-Some-2.action) n) (sym c.saturating_sub-next.ensures)
    (trap_found line at 61 value one code rest two c.requires (action_of c.in-Some-2.action) handles ends)

pub returns-in-None : goal.returns-in-None
returns-in-None c =
    let line = c.args.line.now in
    let at = c.args.at in
    let value = c.in-Some.value.now in
    let code = c.in-Some-quoted_code.code.now in
    let rest = c.in-Some-quoted_code.rest.now in
    let one = ap trap_value (sym c.split_at.ensures.back) ∙ sym c.in-Some.ensures in
    let two = sym c.in-Some-quoted_code.ensures in
    let start = c.saturating_sub-start.ensures in
    let place = c.at.ensures ∙ ap (λ n. column_at (n + 1)) start in
    let read = c.in_ok-action.ensures (length line - length value + 1) place in
    let none : IsHandlerIn (length line - length value + 1) code None = subst (λ o. IsHandlerIn (length line - length value + 1) code (option_map action_of o)) c.in-None.is read in
    denies IsTrap TrapEnds line at c.leaves_out-in-None.result (c.leaves_out-in-None.ensures.fault line (omega (arith, start)))
    (unhandled_trap line at 61 value one code rest two c.requires none)
