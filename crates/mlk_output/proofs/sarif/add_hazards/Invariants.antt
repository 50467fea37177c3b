use Rattle.std.proofs.Common.{◌≡◌, ◌+◌, length, drop}
use Rattle.mlk_output.proofs.sarif.add_hazards.Given as goal

abbrev pub invariant-loop-at : goal.invariant-loop-at
invariant-loop-at l = length l.values.items + length (drop l.at-index l.hazards) ≡ length l.fn.values.items + length l.hazards
