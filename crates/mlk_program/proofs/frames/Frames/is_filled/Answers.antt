use Rattle.std.proofs.Common.{◌∙◌}
use Rattle.mlk_program.proofs.KeyTables.{same_keys, any_keys}
use Rattle.mlk_program.proofs.frames.Frames.is_filled.Goals as goal

pub returns : goal.returns
returns c = rw (← c.self.view_is) (c.contains.ensures ∙ any_keys _ same_keys c.args.key.now c.self.inside.filled.keys)
