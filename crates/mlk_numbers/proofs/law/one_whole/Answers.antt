use Rattle.mlk_numbers.proofs.NumberLaws.{one_whole}
use Rattle.mlk_numbers.proofs.law.one_whole.Goals as goal

pub returns : goal.returns
returns c = one_whole
