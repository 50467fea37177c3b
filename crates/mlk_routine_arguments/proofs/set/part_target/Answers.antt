use Rattle.std.proofs.Common.{◌≤◌, ◌+◌, List, length, refl, sym, ap, subst, arith}
use Rattle.std.proofs.lemmas.Result.{err_from_is_err_and}
use Rattle.mlk_syntax.specs.ExprTrees.{Tree, trees}
use Rattle.mlk_syntax.specs.Trees.{VariableTree, SetPart}
use Rattle.mlk_routine_arguments.specs.PartsRead.{Found}
use Rattle.mlk_routine_arguments.specs.Ends.{TargetEnds}
use Rattle.mlk_syntax.specs.Views.{variable_of}
use Rattle.mlk_routine_arguments.specs.CommandGrammar.{IsTarget}
use Rattle.mlk_routine_arguments.proofs.Outcomes.{denies}
use Rattle.mlk_routine_arguments.proofs.Sequences.{both_found, denied_first, denied_second, second_nowhere}
use Rattle.mlk_routine_arguments.proofs.Bytes.{byte_before}
use Rattle.mlk_routine_arguments.proofs.Enclosed.{byte_found, no_byte}
use Rattle.mlk_routine_arguments.proofs.Targets.{inner_parts, closing_parts, target_parts}
use Rattle.mlk_routine_arguments.proofs.set.part_target.Goals as goal

pub returns-in_err-part : goal.returns-in_err-part
returns-in_err-part c =
    let p = err_from_is_err_and c.from_residual.result c.from_residual.ensures.1 in
    let less = byte_before c.args.line.now c.args.at 36 c.requires in
    let within : c.args.at ≤ length c.args.line.now = omega (arith, less) in
    rw (p.1, p.2) (denied_first (target_parts c.args.dialect c.args.line.now c.args.at c.requires) within c.in_err-part.field-0.0 c.in_err-part.ensures)

pub returns-in_err-variable : goal.returns-in_err-variable
returns-in_err-variable c =
    let p = err_from_is_err_and c.from_residual-in_err-variable.result c.from_residual-in_err-variable.ensures.1 in
    let less = byte_before c.args.line.now c.args.at 36 c.requires in
    let within : c.args.at ≤ length c.args.line.now = omega (arith, less) in
    let open' = c.in_ok-part in
    rw (p.1, p.2) (denied_second (target_parts c.args.dialect c.args.line.now c.args.at c.requires) within open'.part open'.next open'.ensures c.in_err-variable.field-0.0
    (denied_first (closing_parts c.args.line.now open'.next) open'.ensures.0.within c.in_err-variable.field-0.0
    (denied_first (inner_parts c.args.line.now open'.next) open'.ensures.0.within c.in_err-variable.field-0.0 c.in_err-variable.ensures)))

pub returns-in_err-arguments : goal.returns-in_err-arguments
returns-in_err-arguments c =
    let p = err_from_is_err_and c.from_residual-in_err-arguments.result c.from_residual-in_err-arguments.ensures.1 in
    let less = byte_before c.args.line.now c.args.at 36 c.requires in
    let within : c.args.at ≤ length c.args.line.now = omega (arith, less) in
    let open' = c.in_ok-part in
    let v = c.in_ok-variable in
    rw (p.1, p.2) (denied_second (target_parts c.args.dialect c.args.line.now c.args.at c.requires) within open'.part open'.next open'.ensures c.in_err-arguments.field-0.0
    (denied_first (closing_parts c.args.line.now open'.next) open'.ensures.0.within c.in_err-arguments.field-0.0
    (denied_second (inner_parts c.args.line.now open'.next) open'.ensures.0.within (variable_of v.variable) v.next v.ensures c.in_err-arguments.field-0.0 c.in_err-arguments.ensures)))

pub returns-then-not-has_byte : goal.returns-then-not-has_byte
returns-then-not-has_byte c =
    let less = byte_before c.args.line.now c.args.at 36 c.requires in
    let within : c.args.at ≤ length c.args.line.now = omega (arith, less) in
    let open' = c.in_ok-part in
    let v = c.in_ok-variable in
    let a = c.in_ok-arguments in
    let inner = both_found (inner_parts c.args.line.now open'.next) open'.ensures.0.within (variable_of v.variable) (trees a.arguments.items) v.next a.next v.ensures a.ensures in
    denies (IsTarget c.args.dialect) TargetEnds c.args.line.now c.args.at c.refusal_at.result (c.refusal_at.ensures.fault c.args.line.now c.in_ok-arguments.ensures.0.within refl refl)
    (second_nowhere (target_parts c.args.dialect c.args.line.now c.args.at c.requires) within open'.part open'.next open'.ensures
    (second_nowhere (closing_parts c.args.line.now open'.next) open'.ensures.0.within (variable_of v.variable, trees a.arguments.items) a.next inner
    (no_byte c.args.line.now a.next 41 (c.if-not-has_byte.ensures.no refl))))

pub returns : goal.returns
returns c =
    let less = byte_before c.args.line.now c.args.at 36 c.requires in
    let within : c.args.at ≤ length c.args.line.now = omega (arith, less) in
    let open' = c.in_ok-part in
    let v = c.in_ok-variable in
    let a = c.in_ok-arguments in
    let both : VariableTree × List Tree = (variable_of v.variable, trees a.arguments.items) in
    let inner = both_found (inner_parts c.args.line.now open'.next) open'.ensures.0.within (variable_of v.variable) (trees a.arguments.items) v.next a.next v.ensures a.ensures in
    let boxed = ap variable_of c.in_ok-variable-2.ensures.ok in
    subst (λ v. Found (IsTarget c.args.dialect) TargetEnds c.args.line.now c.args.at (SetPart open'.part v (trees a.arguments.items)) (a.next + 1)) (sym boxed)
    (both_found (target_parts c.args.dialect c.args.line.now c.args.at c.requires) within open'.part both open'.next (a.next + 1) open'.ensures
    (both_found (closing_parts c.args.line.now open'.next) open'.ensures.0.within both tt a.next (a.next + 1) inner (byte_found c.args.line.now a.next 41 (c.if-not-has_byte.ensures.yes refl))))
