use Rattle.mlk_machine_laws.proofs.Sharing.{shared_by_reference}
use Rattle.mlk_machine_laws.proofs.law.shared_by_reference.Goals as goal

pub returns : goal.returns
returns c = shared_by_reference
