use Rattle.mlk_routine.proofs.SoleLines.{routine_once}
use Rattle.mlk_routine.proofs.law.one_tree.Goals as goal

pub returns : goal.returns
returns c = routine_once
