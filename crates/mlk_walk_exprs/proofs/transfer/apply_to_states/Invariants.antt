use Rattle.std.proofs.Common.{◌≡◌, []}
use Rattle.std.specs.Prelude.{flat_map}
use Rattle.mlk_walk_exprs.specs.Walks.{add_all, with_states}
use Rattle.mlk_walk_exprs.proofs.transfer.apply_to_states.Given as goal

abbrev pub invariant-loop-state : goal.invariant-loop-state
invariant-loop-state g l = l.walk ≡ add_all (flat_map (g.T.Transfer.outcomes l.transfer) l.yielded) (with_states [] l.fn.walk)
