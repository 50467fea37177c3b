use Rattle.mlk_machine_laws.proofs.Runs.{no_ring}
use Rattle.mlk_machine_laws.proofs.law.no_ring.Goals as goal

pub returns : goal.returns
returns c = no_ring
