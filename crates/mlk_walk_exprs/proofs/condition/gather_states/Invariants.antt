use Rattle.std.proofs.Common.{◌≡◌}
use Rattle.mlk_walk_exprs.specs.Gathered.{in_turn}
use Rattle.mlk_walk_exprs.proofs.condition.gather_states.Given as goal

abbrev pub invariant-loop-states : goal.invariant-loop-states
invariant-loop-states l = l.all ≡ in_turn l.initial.all l.yielded
