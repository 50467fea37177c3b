use Rattle.mlk_names.proofs.NameLemmas.{conflict_above}
use Rattle.mlk_names.proofs.law.conflicts_above.Goals as goal

pub returns : goal.returns
returns c = conflict_above
