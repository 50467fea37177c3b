use Rattle.mlk_program.proofs.KeyTables.{same_keys, learns_filled}
use Rattle.mlk_program.proofs.frames.Frames.fill.Goals as goal

pub returns : goal.returns
returns c = rw (← c.self.view_is)
    (learns_filled _ same_keys c.self.inside.filled.keys c.insert.new.self.keys c.self.inside.passed.entries _ c.in-Ok.ensures.keys)
