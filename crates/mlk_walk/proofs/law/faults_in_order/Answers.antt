use Rattle.mlk_walk.proofs.Ordered.{Theorem}
use Rattle.mlk_walk.proofs.law.faults_in_order.Goals as goal

pub returns : goal.returns
returns c = Theorem
