use Rattle.std.proofs.Common.{option_map}
use Rattle.std.proofs.lemmas.Result.{err_from_is_err_and}
use Rattle.mlk_syntax.specs.ExprTrees.{actual_trees}
use Rattle.mlk_routine_arguments.proofs.Sequences.{both_found, denied_first, denied_second}
use Rattle.mlk_routine_arguments.proofs.Calls.{call_parts}
use Rattle.mlk_routine_arguments.proofs.call.call.Goals as goal

pub returns-in_err-callee : goal.returns-in_err-callee
returns-in_err-callee c =
    let p = err_from_is_err_and c.from_residual.result c.from_residual.ensures.1 in
    rw (p.1, p.2) (denied_first (call_parts c.args.allows c.args.passing c.args.line.now c.args.at) c.requires c.in_err-callee.field-0.0 c.in_err-callee.ensures)

pub returns-in_err-actuals : goal.returns-in_err-actuals
returns-in_err-actuals c =
    let p = err_from_is_err_and c.from_residual-in_err-actuals.result c.from_residual-in_err-actuals.ensures.1 in
    rw (p.1, p.2) (denied_second (call_parts c.args.allows c.args.passing c.args.line.now c.args.at) c.requires c.in_ok-callee.callee c.in_ok-callee.next c.in_ok-callee.ensures c.in_err-actuals.field-0.0 c.in_err-actuals.ensures)

pub returns : goal.returns
returns c =
    rw c.at-column.ensures
    (both_found (call_parts c.args.allows c.args.passing c.args.line.now c.args.at) c.requires c.in_ok-callee.callee (option_map (λ v. actual_trees v.items) c.in_ok-actuals.actuals) c.in_ok-callee.next c.in_ok-actuals.next
    c.in_ok-callee.ensures c.in_ok-actuals.ensures)
