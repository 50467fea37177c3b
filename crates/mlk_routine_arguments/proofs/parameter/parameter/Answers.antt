use Rattle.std.proofs.Common.{Some, None, subst, option_map}
use Rattle.std.proofs.lemmas.Result.{err_from_is_err_and}
use Rattle.mlk_expr.specs.declared.context.Allows.TheVariants.{Everything}
use Rattle.mlk_syntax.specs.ExprTrees.{tree_of}
use Rattle.mlk_routine_arguments.specs.PartsRead.{Found}
use Rattle.mlk_routine_arguments.specs.Ends.{AfterEnds}
use Rattle.mlk_routine_arguments.specs.CommandGrammar.{IsAfter}
use Rattle.mlk_routine_arguments.proofs.Sequences.{both_found, denied_first, denied_second}
use Rattle.mlk_routine_arguments.proofs.Parameters.{steps_parts, parameter_parts, no_limit}
use Rattle.mlk_routine_arguments.proofs.parameter.parameter.Goals as goal

pub returns-in_err-start : goal.returns-in_err-start
returns-in_err-start c =
    let p = err_from_is_err_and c.from_residual.result c.from_residual.ensures.1 in
    rw (p.1, p.2) (denied_first (parameter_parts c.args.line.now c.args.at) c.requires c.in_err-start.field-0.0 c.in_err-start.ensures)

pub returns-in_err-step : goal.returns-in_err-step
returns-in_err-step c =
    let p = err_from_is_err_and c.from_residual-in_err-step.result c.from_residual-in_err-step.ensures.1 in
    rw (p.1, p.2) (denied_second (parameter_parts c.args.line.now c.args.at) c.requires (tree_of c.in_ok-start.start) c.in_ok-start.next c.in_ok-start.ensures c.in_err-step.field-0.0
    (denied_first (steps_parts c.args.line.now c.in_ok-start.next) c.in_ok-start.ensures.0.within c.in_err-step.field-0.0 c.in_err-step.ensures))

pub returns-in_default : goal.returns-in_default
returns-in_default c =
    let step = subst (λ o. Found (IsAfter 58 Everything) (AfterEnds 58) c.args.line.now c.in_ok-start.next (option_map tree_of o) c.in_ok-step.next) c.in_default.is c.in_ok-step.ensures in
    both_found (parameter_parts c.args.line.now c.args.at) c.requires (tree_of c.in_ok-start.start) (None, None) c.in_ok-start.next c.in_ok-step.next c.in_ok-start.ensures
    (both_found (steps_parts c.args.line.now c.in_ok-start.next) c.in_ok-start.ensures.0.within None None c.in_ok-step.next c.in_ok-step.next step (no_limit c.args.line.now c.in_ok-step.next step.0.within step.0.ended))

pub returns-in_err-limit : goal.returns-in_err-limit
returns-in_err-limit c =
    let p = err_from_is_err_and c.from_residual-in_err-limit.result c.from_residual-in_err-limit.ensures.1 in
    let step = subst (λ o. Found (IsAfter 58 Everything) (AfterEnds 58) c.args.line.now c.in_ok-start.next (option_map tree_of o) c.in_ok-step.next) c.in-Some.is c.in_ok-step.ensures in
    rw (p.1, p.2) (denied_second (parameter_parts c.args.line.now c.args.at) c.requires (tree_of c.in_ok-start.start) c.in_ok-start.next c.in_ok-start.ensures c.in_err-limit.field-0.0
    (denied_second (steps_parts c.args.line.now c.in_ok-start.next) c.in_ok-start.ensures.0.within (Some (tree_of c.in-Some.step)) c.in_ok-step.next step c.in_err-limit.field-0.0 c.in_err-limit.ensures))

pub returns-in-Some-limit : goal.returns-in-Some-limit
returns-in-Some-limit c =
    let step = subst (λ o. Found (IsAfter 58 Everything) (AfterEnds 58) c.args.line.now c.in_ok-start.next (option_map tree_of o) c.in_ok-step.next) c.in-Some.is c.in_ok-step.ensures in
    let limit = subst (λ o. Found (IsAfter 58 Everything) (AfterEnds 58) c.args.line.now c.in_ok-step.next (option_map tree_of o) c.in_ok-limit.next) c.in-Some-limit.is c.in_ok-limit.ensures in
    both_found (parameter_parts c.args.line.now c.args.at) c.requires (tree_of c.in_ok-start.start) (Some (tree_of c.in-Some.step), Some (tree_of c.in-Some-limit.limit)) c.in_ok-start.next c.in_ok-limit.next c.in_ok-start.ensures
    (both_found (steps_parts c.args.line.now c.in_ok-start.next) c.in_ok-start.ensures.0.within (Some (tree_of c.in-Some.step)) (Some (tree_of c.in-Some-limit.limit)) c.in_ok-step.next c.in_ok-limit.next step limit)

pub returns-in-None : goal.returns-in-None
returns-in-None c =
    let step = subst (λ o. Found (IsAfter 58 Everything) (AfterEnds 58) c.args.line.now c.in_ok-start.next (option_map tree_of o) c.in_ok-step.next) c.in-Some.is c.in_ok-step.ensures in
    let limit = subst (λ o. Found (IsAfter 58 Everything) (AfterEnds 58) c.args.line.now c.in_ok-step.next (option_map tree_of o) c.in_ok-limit.next) c.in-None.is c.in_ok-limit.ensures in
    both_found (parameter_parts c.args.line.now c.args.at) c.requires (tree_of c.in_ok-start.start) (Some (tree_of c.in-Some.step), None) c.in_ok-start.next c.in_ok-limit.next c.in_ok-start.ensures
    (both_found (steps_parts c.args.line.now c.in_ok-start.next) c.in_ok-start.ensures.0.within (Some (tree_of c.in-Some.step)) None c.in_ok-step.next c.in_ok-limit.next step limit)
