use Rattle.mlk_rules.proofs.Instances.{lock_of_node}
use Rattle.mlk_rules.proofs.law.lock_of_node.Goals as goal

pub returns : goal.returns
returns c = lock_of_node
