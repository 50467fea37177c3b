use Rattle.mlk_soundness_walk.proofs.Framed.{all_entries}
use Rattle.mlk_soundness_walk.proofs.law.entries_by_commands.Goals as goal

pub returns : goal.returns
returns c = all_entries
