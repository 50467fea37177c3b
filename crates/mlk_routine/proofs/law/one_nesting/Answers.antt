use Rattle.mlk_routine.proofs.Nesting.{nested_once}
use Rattle.mlk_routine.proofs.law.one_nesting.Goals as goal

pub returns : goal.returns
returns c = nested_once
