use Rattle.mlk_names.proofs.TermLemmas.{some_name, one_name, names_same}
use Rattle.mlk_names.proofs.law.names_by_mentioned.Goals as goal

pub returns : goal.returns
returns c = record { some = some_name; one = one_name; same = names_same }
