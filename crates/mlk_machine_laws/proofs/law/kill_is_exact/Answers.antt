use Rattle.mlk_machine_laws.proofs.Killing.{kill_is_exact}
use Rattle.mlk_machine_laws.proofs.law.kill_is_exact.Goals as goal

pub returns : goal.returns
returns c = kill_is_exact
