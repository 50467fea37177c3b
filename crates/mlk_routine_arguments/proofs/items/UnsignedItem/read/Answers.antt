use Rattle.std.proofs.lemmas.Result.{err_from_is_err_and}
use Rattle.mlk_routine_arguments.proofs.items.UnsignedItem.read.Goals as goal

pub returns-in_err-variable : goal.returns-in_err-variable
returns-in_err-variable c =
    let p = err_from_is_err_and c.from_residual.result c.from_residual.ensures.1 in
    rw (p.1, p.2) c.in_err-variable.ensures

pub returns : goal.returns
returns c = c.in_ok-variable.ensures
