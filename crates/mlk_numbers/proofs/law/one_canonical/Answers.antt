use Rattle.mlk_numbers.proofs.NumberLaws.{one_canonical}
use Rattle.mlk_numbers.proofs.law.one_canonical.Goals as goal

pub returns : goal.returns
returns c = one_canonical
