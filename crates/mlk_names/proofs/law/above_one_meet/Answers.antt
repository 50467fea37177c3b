use Rattle.mlk_names.proofs.NameLemmas.{above_one}
use Rattle.mlk_names.proofs.TermLemmas.{prefix_two}
use Rattle.mlk_names.proofs.law.above_one_meet.Goals as goal

pub returns : goal.returns
returns c = record { names = above_one; terms = prefix_two }
