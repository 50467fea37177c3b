use Rattle.std.proofs.Common.{◌≡◌, ◌∷◌, []}
use Rattle.mlk_calls.specs.Changes.{changed_state}
use Rattle.mlk_walk_exprs.specs.Walks.{with_states}
use Rattle.mlk_walk_exprs.proofs.InPlace.{changed_to}
use Rattle.mlk_walk_commands.proofs.variable.Change.make_in_place.Given as goal

abbrev pub invariant-loop-state : goal.invariant-loop-state
invariant-loop-state l = (l.walk ≡ with_states [] l.fn.walk)
    × (l.state-items ≡ changed_to (changed_state (l.self.names.now ∷ [])) l.state-index l.fn.walk.going)
