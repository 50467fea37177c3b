use Rattle.mlk_routine_laws.proofs.ReadTrees.{well-formed}
use Rattle.mlk_routine_laws.proofs.law.well_formed.Goals as goal

pub returns : goal.returns
returns c = well-formed
