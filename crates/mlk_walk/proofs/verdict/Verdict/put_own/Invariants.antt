use Rattle.std.proofs.Common.{◌≡◌, length, map}
use Rattle.mlk_walk.specs.Faults.{put_faults}
use Rattle.mlk_walk.proofs.verdict.Verdict.put_own.Given as goal

abbrev pub invariant-loop-fault : goal.invariant-loop-fault
invariant-loop-fault l = put_faults (map (λ f. f.fault) l.left.items) l.self ≡ put_faults l.fn.faults l.fn.self

abbrev pub decreases-loop-fault : goal.decreases-loop-fault
decreases-loop-fault l = length l.left.items
