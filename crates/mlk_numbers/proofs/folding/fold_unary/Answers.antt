use Rattle.mlk_numbers.proofs.Operators.{before_is}
use Rattle.mlk_numbers.proofs.folding.fold_unary.Goals as goal

pub returns : goal.returns
returns c = before_is c.args.op c.args.a.now c.in_ok-found.found c.in_ok-found.ensures
