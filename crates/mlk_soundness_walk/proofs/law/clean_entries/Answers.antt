use Rattle.mlk_soundness_walk.proofs.Reported.{clean_entry}
use Rattle.mlk_soundness_walk.proofs.law.clean_entries.Goals as goal

pub returns : goal.returns
returns c = clean_entry
