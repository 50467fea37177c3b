use Rattle.mlk_routine_laws.proofs.ReadTrees.{routines-spelled}
use Rattle.mlk_routine_laws.proofs.law.routines_spelled.Goals as goal

pub returns : goal.returns
returns c = routines-spelled
