use Rattle.std.proofs.Common.{map, refl}
use Rattle.std.proofs.lemmas.Result.{err_from_is_err_and}
use Rattle.mlk_expr.specs.Grammar.{IsList}
use Rattle.mlk_routine_arguments.specs.Ends.{AreEnded, ParameterEnds, ControlEnds}
use Rattle.mlk_syntax.specs.Views.{parameter_of}
use Rattle.mlk_routine_arguments.specs.CommandGrammar.{IsParameter, IsControl}
use Rattle.mlk_routine_arguments.proofs.Sequences.{both_found, denied_first, denied_second, second_nowhere}
use Rattle.mlk_routine_arguments.proofs.Bytes.{after_found, after_denied, after_missing}
use Rattle.mlk_routine_arguments.proofs.Outcomes.{denies}
use Rattle.mlk_routine_arguments.proofs.Controls.{control_parts, other_byte}
use Rattle.mlk_routine_arguments.proofs.parameter.control.Goals as goal

pub returns-in_err-variable : goal.returns-in_err-variable
returns-in_err-variable c =
    let p = err_from_is_err_and c.from_residual.result c.from_residual.ensures.1 in
    rw (p.1, p.2) (denied_first (control_parts c.args.line.now c.args.at) c.requires c.in_err-variable.field-0.0 c.in_err-variable.ensures)

pub returns-then-has_byte : goal.returns-then-has_byte
returns-then-has_byte c =
    denies IsControl ControlEnds c.args.line.now c.args.at c.leaves_out.result (c.leaves_out.ensures.fault c.args.line.now c.requires)
    (second_nowhere (control_parts c.args.line.now c.args.at) c.requires c.in_ok-variable.variable c.in_ok-variable.next c.in_ok-variable.ensures
    (after_missing (IsList IsParameter) (AreEnded ParameterEnds) c.args.line.now c.in_ok-variable.next 61 (other_byte c.args.line.now c.in_ok-variable.next (c.if-has_byte.ensures.yes refl))))

pub returns-then-not-has_byte : goal.returns-then-not-has_byte
returns-then-not-has_byte c =
    denies IsControl ControlEnds c.args.line.now c.args.at c.refusal_at.result (c.refusal_at.ensures.fault c.args.line.now c.in_ok-variable.ensures.0.within refl refl)
    (second_nowhere (control_parts c.args.line.now c.args.at) c.requires c.in_ok-variable.variable c.in_ok-variable.next c.in_ok-variable.ensures
    (after_missing (IsList IsParameter) (AreEnded ParameterEnds) c.args.line.now c.in_ok-variable.next 61 (c.if-not-has_byte.ensures.no refl)))

pub returns-in_err-parameters : goal.returns-in_err-parameters
returns-in_err-parameters c =
    let p = err_from_is_err_and c.from_residual-in_err-parameters.result c.from_residual-in_err-parameters.ensures.1 in
    rw (p.1, p.2) (denied_second (control_parts c.args.line.now c.args.at) c.requires c.in_ok-variable.variable c.in_ok-variable.next c.in_ok-variable.ensures c.in_err-parameters.field-0.0
    (after_denied (IsList IsParameter) (AreEnded ParameterEnds) c.args.line.now c.in_ok-variable.next 61 c.in_err-parameters.field-0.0 c.in_err-parameters.ensures))

pub returns : goal.returns
returns c =
    rw c.at-column.ensures
    (both_found (control_parts c.args.line.now c.args.at) c.requires c.in_ok-variable.variable (map parameter_of c.in_ok-parameters.parameters.items) c.in_ok-variable.next c.in_ok-parameters.next c.in_ok-variable.ensures
    (after_found (IsList IsParameter) (AreEnded ParameterEnds) c.args.line.now c.in_ok-variable.next 61 (c.if-not-has_byte.ensures.yes refl) (map parameter_of c.in_ok-parameters.parameters.items) c.in_ok-parameters.next c.in_ok-parameters.ensures))
