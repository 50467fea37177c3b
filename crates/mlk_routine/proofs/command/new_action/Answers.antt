use Rattle.std.proofs.Common.{map}
use Rattle.std.proofs.lemmas.Result.{err_from_is_err_and}
use Rattle.mlk_syntax.specs.Views.{new_of}
use Rattle.mlk_routine_arguments.specs.Kinds.{newed_of}
use Rattle.mlk_routine_arguments.proofs.Sequences.{turned_found, turned_denied}
use Rattle.mlk_routine.proofs.Doing.{new_turned, news_turned}
use Rattle.mlk_routine.proofs.command.new_action.Goals as goal

pub returns-in_err-arguments-in-Standard : goal.returns-in_err-arguments-in-Standard
returns-in_err-arguments-in-Standard c =
    let p = err_from_is_err_and c.from_residual.result c.from_residual.ensures.1 in
    rw (p.1, p.2) (turned_denied (new_turned c.args.manner.dialect c.args.manner.returns c.args.line.now c.args.at c.in-Standard.is) c.in_err-arguments-in-Standard.field-0.0 c.in_err-arguments-in-Standard.ensures)

pub returns-in_ok-arguments-in-Standard : goal.returns-in_ok-arguments-in-Standard
returns-in_ok-arguments-in-Standard c =
    turned_found (new_turned c.args.manner.dialect c.args.manner.returns c.args.line.now c.args.at c.in-Standard.is) (map new_of c.in_ok-arguments-in-Standard.arguments.items) c.in_ok-arguments-in-Standard.next c.in_ok-arguments-in-Standard.ensures

pub returns-in_err-items-in-Extended : goal.returns-in_err-items-in-Extended
returns-in_err-items-in-Extended c =
    let p = err_from_is_err_and c.from_residual-in_err-items-in-Extended.result c.from_residual-in_err-items-in-Extended.ensures.1 in
    rw (p.1, p.2) (turned_denied (news_turned c.args.manner.dialect c.args.manner.returns c.args.line.now c.args.at c.in-Extended.is) c.in_err-items-in-Extended.field-0.0 c.in_err-items-in-Extended.ensures)

pub returns-in_ok-newing-in-Extended : goal.returns-in_ok-newing-in-Extended
returns-in_ok-newing-in-Extended c =
    rw (c.in_ok-newing-in-Extended.ensures) (turned_found (news_turned c.args.manner.dialect c.args.manner.returns c.args.line.now c.args.at c.in-Extended.is) (map newed_of c.in_ok-items-in-Extended.items.items) c.in_ok-items-in-Extended.next c.in_ok-items-in-Extended.ensures)
