use Rattle.mlk_machine_laws.proofs.Runs.{clashes_are_free}
use Rattle.mlk_machine_laws.proofs.law.clashes_are_free.Goals as goal

pub returns : goal.returns
returns c = clashes_are_free
