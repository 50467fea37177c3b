use Rattle.std.proofs.Common.{◌≡◌, take}
use Rattle.mlk_walk_state.specs.Scope.{scope_of}
use Rattle.mlk_calls.specs.Changes.{short_names}
use Rattle.mlk_calls.proofs.changing.short_names.Given as goal

abbrev pub invariant-loop-set : goal.invariant-loop-set
invariant-loop-set l = l.short.items ≡ short_names (scope_of l.scope) (take l.set-index l.names) l.state
