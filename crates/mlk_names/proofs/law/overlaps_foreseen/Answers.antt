use Rattle.mlk_names.proofs.OverlapLemmas.{overlaps_foreseen}
use Rattle.mlk_names.proofs.law.overlaps_foreseen.Goals as goal

pub returns : goal.returns
returns c = overlaps_foreseen
