use Rattle.std.proofs.Common.{◌≡◌, map}
use Rattle.mlk_walk_lines.specs.Loops.{and_faults}
use Rattle.mlk_walk_lines.proofs.control.add_faults.Given as goal

abbrev pub invariant-loop-found : goal.invariant-loop-found
invariant-loop-found l = l.walk ≡ and_faults (map (λ f. f.fault) l.yielded) l.fn.walk
