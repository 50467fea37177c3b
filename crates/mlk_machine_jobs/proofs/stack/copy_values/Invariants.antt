use Rattle.std.proofs.Common.{◌≡◌, take, map}
use Rattle.mlk_machine_jobs.proofs.stack.copy_values.Given as goal

abbrev pub invariant-loop-value : goal.invariant-loop-value
invariant-loop-value l = l.copies.items ≡ take l.value-index l.values
