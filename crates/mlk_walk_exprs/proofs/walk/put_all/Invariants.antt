use Rattle.std.proofs.Common.{◌≡◌}
use Rattle.mlk_walk_exprs.specs.Walks.{put_states}
use Rattle.mlk_walk_exprs.proofs.walk.put_all.Given as goal

abbrev pub invariant-loop-state : goal.invariant-loop-state
invariant-loop-state l = l.all ≡ put_states l.yielded l.fn.states
