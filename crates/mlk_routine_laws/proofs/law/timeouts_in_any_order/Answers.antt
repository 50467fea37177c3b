use Rattle.mlk_routine_laws.proofs.TimedArguments.{timeouts-in-any-order}
use Rattle.mlk_routine_laws.proofs.law.timeouts_in_any_order.Goals as goal

pub returns : goal.returns
returns c = timeouts-in-any-order
