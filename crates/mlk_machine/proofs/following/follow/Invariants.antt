use Rattle.std.proofs.Common.{length, map}
use Rattle.mlk_machine.specs.InstructionViews.{asked_of}
use Rattle.mlk_machine.proofs.FollowLemmas.{Half}
use Rattle.mlk_machine.proofs.following.follow.Given as goal

abbrev pub invariant-loop-asked : goal.invariant-loop-asked
invariant-loop-asked l = Half l.fn.system l.system (map asked_of l.fn.lines) (map asked_of l.left) l.number

abbrev pub decreases-loop-asked : goal.decreases-loop-asked
decreases-loop-asked l = length l.left
