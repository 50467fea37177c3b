use Rattle.std.proofs.Common.{◌≡◌, ◌+◌, length, drop}
use Rattle.mlk_output.proofs.sarif.add_gaps.Given as goal

abbrev pub invariant-loop-gap : goal.invariant-loop-gap
invariant-loop-gap l = length l.values.items + length (drop l.gap-index l.gaps) ≡ length l.fn.values.items + length l.gaps
