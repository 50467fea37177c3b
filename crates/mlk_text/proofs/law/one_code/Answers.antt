use Rattle.mlk_text.proofs.CodeLemmas.{number_of-one}
use Rattle.mlk_text.proofs.law.one_code.Goals as goal

pub returns : goal.returns
returns c = number_of-one
