use Rattle.std.proofs.Common.{◌≡◌, map}
use Rattle.mlk_walk_exprs.specs.Walks.{Goes, add_all}
use Rattle.mlk_walk_exprs.proofs.walk.Walk.add_all_live.Given as goal

abbrev pub invariant-loop-state : goal.invariant-loop-state
invariant-loop-state l = l.self ≡ add_all (map Goes l.yielded) l.fn.self
