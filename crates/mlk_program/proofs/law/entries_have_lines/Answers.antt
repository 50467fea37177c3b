use Rattle.mlk_program.proofs.EntryTexts.{entries-have-lines}
use Rattle.mlk_program.proofs.law.entries_have_lines.Goals as goal

pub returns : goal.returns
returns c = entries-have-lines
