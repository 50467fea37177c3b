use Rattle.std.proofs.Common.{map}
use Rattle.std.proofs.lemmas.Result.{err_from_is_err_and}
use Rattle.mlk_routine_arguments.specs.Kinds.{device_of}
use Rattle.mlk_routine_arguments.proofs.Sequences.{turned_found, turned_denied}
use Rattle.mlk_routine.proofs.Doing.{opening_turned}
use Rattle.mlk_routine.proofs.command.open_action.Goals as goal

pub returns-in_err-devices : goal.returns-in_err-devices
returns-in_err-devices c =
    let p = err_from_is_err_and c.from_residual.result c.from_residual.ensures.1 in
    rw (p.1, p.2) (turned_denied (opening_turned c.args.line.now c.args.at) c.in_err-devices.field-0.0 c.in_err-devices.ensures)

pub returns : goal.returns
returns c =
    rw (c.in_ok-opening.ensures) (turned_found (opening_turned c.args.line.now c.args.at) (map device_of c.in_ok-devices.devices.items) c.in_ok-devices.next c.in_ok-devices.ensures)
