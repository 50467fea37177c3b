use Rattle.mlk_text.proofs.Entries.{entries-written}
use Rattle.mlk_text.proofs.law.entries_written.Goals as goal

pub returns : goal.returns
returns c = entries-written
