use Rattle.mlk_numbers.proofs.Operators.{folds_are}
use Rattle.mlk_numbers.proofs.law.folds_are.Goals as goal

pub returns : goal.returns
returns c = folds_are
