use Rattle.mlk_machine_laws.proofs.Scopes.{ends_put_back}
use Rattle.mlk_machine_laws.proofs.law.ends_put_back.Goals as goal

pub returns : goal.returns
returns c = ends_put_back
