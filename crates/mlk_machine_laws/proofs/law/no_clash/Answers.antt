use Rattle.mlk_machine_laws.proofs.Runs.{no_clash}
use Rattle.mlk_machine_laws.proofs.law.no_clash.Goals as goal

pub returns : goal.returns
returns c = no_clash
