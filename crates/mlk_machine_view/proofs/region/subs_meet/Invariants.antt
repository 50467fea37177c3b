use Rattle.std.proofs.Common.{◌≡◌, length}
use Rattle.mlk_machine_view.specs.Regions.{subs_meet}
use Rattle.mlk_machine_view.proofs.region.subs_meet.Given as goal

abbrev pub invariant-loop-x : goal.invariant-loop-x
invariant-loop-x l = subs_meet l.firsts l.far l.seconds l.wide ≡ subs_meet l.fn.first l.far l.fn.second l.wide

abbrev pub decreases-loop-x : goal.decreases-loop-x
decreases-loop-x l = length l.firsts
