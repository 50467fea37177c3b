use Rattle.std.proofs.Common.{◌≡◌, []}
use Rattle.mlk_walk_state.specs.States.{without_last}
use Rattle.mlk_walk_exprs.specs.Walks.{with_states}
use Rattle.mlk_walk_exprs.proofs.InPlace.{changed_to}
use Rattle.mlk_walk_exprs.proofs.transfer.forget_captured.Given as goal

abbrev pub invariant-loop-state : goal.invariant-loop-state
invariant-loop-state l = (l.walk ≡ with_states [] l.fn.walk)
    × (l.state-items ≡ changed_to (without_last l.count) l.state-index l.fn.walk.going)
