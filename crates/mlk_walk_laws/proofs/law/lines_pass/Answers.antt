use Rattle.mlk_walk_laws.proofs.Passing.{lines_pass}
use Rattle.mlk_walk_laws.proofs.law.lines_pass.Goals as goal

pub returns : goal.returns
returns c = lines_pass
