use Rattle.std.proofs.Common.{◌≡◌, length}
use Rattle.mlk_baseline.proofs.fault_key.fault_keys.Given as goal

abbrev pub invariant-loop-row : goal.invariant-loop-row
invariant-loop-row l = length l.found.items ≡ l.row-index
