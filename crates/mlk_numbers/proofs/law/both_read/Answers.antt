use Rattle.mlk_numbers.proofs.NumberLaws.{both_read}
use Rattle.mlk_numbers.proofs.law.both_read.Goals as goal

pub returns : goal.returns
returns c = both_read
