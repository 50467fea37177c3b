use Rattle.std.proofs.Common.{◌≡◌, ◌≤◌, ◌++◌, ℕ, List, Some, length}
use Rattle.mlk_routine_arguments.specs.Details.{first_spot, after_all}
use Rattle.mlk_routine_arguments.proofs.details.longest_details.Given as goal

abbrev pub invariant-loop-b : goal.invariant-loop-b
invariant-loop-b l = (front : List ℕ) × (l.bytes ≡ front ++ l.rest)
    × (after_all (Some first_spot) front ≡ Some l.spot) × (l.spot.depth ≤ length front)

abbrev pub decreases-loop-b : goal.decreases-loop-b
decreases-loop-b l = length l.rest
