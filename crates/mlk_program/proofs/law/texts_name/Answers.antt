use Rattle.mlk_program.proofs.EntryTexts.{texts-name}
use Rattle.mlk_program.proofs.law.texts_name.Goals as goal

pub returns : goal.returns
returns c = texts-name
