use Rattle.std.proofs.Common.{◌↔◌, length}
use Rattle.mlk_names.specs.References.{SubsMayMeet}
use Rattle.mlk_names.proofs.overlap.subs_may_meet.Given as goal

abbrev pub invariant-loop-x : goal.invariant-loop-x
invariant-loop-x l = SubsMayMeet l.firsts l.far l.seconds l.wide ↔ SubsMayMeet l.fn.first l.far l.fn.second l.wide

abbrev pub decreases-loop-x : goal.decreases-loop-x
decreases-loop-x l = length l.firsts
