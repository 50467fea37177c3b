use Rattle.std.proofs.Common.{◌≡◌, map}
use Rattle.std.specs.Prelude.{filter}
use Rattle.mlk_walk.specs.Verdicts.{fault_in, is_of}
use Rattle.mlk_walk.proofs.line.faults_of.Given as goal

abbrev pub invariant-loop-found : goal.invariant-loop-found
invariant-loop-found l = l.faults ≡ map fault_in (filter (is_of l.line) (map (λ f. f.0) l.yielded))
