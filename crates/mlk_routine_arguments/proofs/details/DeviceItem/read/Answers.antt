use Rattle.std.proofs.lemmas.Result.{err_from_is_err_and}
use Rattle.mlk_syntax.specs.ExprTrees.{tree_of}
use Rattle.mlk_routine_arguments.proofs.Sequences.{both_found, denied_first, denied_second}
use Rattle.mlk_routine_arguments.proofs.DeviceDetails.{device_parts}
use Rattle.mlk_routine_arguments.proofs.details.DeviceItem.read.Goals as goal

pub returns-in_err-name : goal.returns-in_err-name
returns-in_err-name c =
    let p = err_from_is_err_and c.from_residual.result c.from_residual.ensures.1 in
    rw (p.1, p.2) (denied_first (device_parts c.args.line.now c.args.at) c.requires c.in_err-name.field-0.0 c.in_err-name.ensures)

pub returns-in_err-is_timed : goal.returns-in_err-is_timed
returns-in_err-is_timed c =
    let p = err_from_is_err_and c.from_residual-in_err-is_timed.result c.from_residual-in_err-is_timed.ensures.1 in
    rw (p.1, p.2) (denied_second (device_parts c.args.line.now c.args.at) c.requires (tree_of c.in_ok-name.name) c.in_ok-name.next c.in_ok-name.ensures c.in_err-is_timed.field-0.0 c.in_err-is_timed.ensures)

pub returns : goal.returns
returns c =
    both_found (device_parts c.args.line.now c.args.at) c.requires (tree_of c.in_ok-name.name) c.in_ok-is_timed.is_timed c.in_ok-name.next c.in_ok-is_timed.next c.in_ok-name.ensures c.in_ok-is_timed.ensures
