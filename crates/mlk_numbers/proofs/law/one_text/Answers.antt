use Rattle.mlk_numbers.proofs.NumberLaws.{one_text}
use Rattle.mlk_numbers.proofs.law.one_text.Goals as goal

pub returns : goal.returns
returns c = one_text
