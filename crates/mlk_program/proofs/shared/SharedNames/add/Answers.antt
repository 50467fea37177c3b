use Rattle.mlk_program.proofs.SharedNames.{gains_inserted}
use Rattle.mlk_program.proofs.shared.SharedNames.add.Goals as goal

pub returns : goal.returns
returns c = rw (← c.self.view_is) (gains_inserted c.self.inside.names.keys c.insert.new.self.keys _ c.in-Ok.ensures.keys)
