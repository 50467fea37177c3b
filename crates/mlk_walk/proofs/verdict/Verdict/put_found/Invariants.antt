use Rattle.std.proofs.Common.{◌≡◌, length, map}
use Rattle.mlk_walk.specs.Faults.{put_faults}
use Rattle.mlk_walk.specs.Verdicts.{fault_in}
use Rattle.mlk_walk.proofs.verdict.Verdict.put_found.Given as goal

abbrev pub invariant-loop-found : goal.invariant-loop-found
invariant-loop-found l = put_faults (map (λ f. f.0.fault) l.left.items) l.self ≡ put_faults (map fault_in (map (λ f. f.0) l.fn.faults.items)) l.fn.self

abbrev pub decreases-loop-found : goal.decreases-loop-found
decreases-loop-found l = length l.left.items
