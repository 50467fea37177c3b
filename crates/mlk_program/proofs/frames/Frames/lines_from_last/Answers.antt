use Rattle.std.proofs.Common.{◌∙◌}
use Rattle.mlk_program.proofs.KeyTables.{same_keys, last_found}
use Rattle.mlk_program.proofs.frames.Frames.lines_from_last.Goals as goal

pub returns : goal.returns
returns c = rw (← c.self.view_is) (c.copied.ensures ∙ c.get.ensures.value ∙ last_found _ same_keys c.args.key.now c.self.inside.passed.entries)
