use Rattle.std.proofs.Common.{◌≡◌, take}
use Rattle.mlk_walk_exprs.specs.Walks.{put_states}
use Rattle.mlk_walk_lines.proofs.control.put_few.Given as goal

abbrev pub invariant-loop-state : goal.invariant-loop-state
invariant-loop-state l = take 17 l.all ≡ take 17 (put_states l.yielded l.fn.states)
