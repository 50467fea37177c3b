use Rattle.mlk_numbers.proofs.Operators.{between_is}
use Rattle.mlk_numbers.proofs.folding.fold.Goals as goal

pub returns : goal.returns
returns c = between_is c.args.op c.args.a.now c.args.b.now c.in_ok-found.found c.in_ok-found.ensures
