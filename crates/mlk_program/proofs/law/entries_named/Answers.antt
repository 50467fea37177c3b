use Rattle.mlk_program.proofs.EntryTexts.{entries-named}
use Rattle.mlk_program.proofs.law.entries_named.Goals as goal

pub returns : goal.returns
returns c = entries-named
