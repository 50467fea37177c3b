use Rattle.std.proofs.Common.{◌≡◌, ◌+◌, length, drop}
use Rattle.mlk_output.proofs.sarif.fault_values.Given as goal

abbrev pub invariant-loop-row : goal.invariant-loop-row
invariant-loop-row l = length l.values.items + length (drop l.row-index l.rows) ≡ length l.rows
