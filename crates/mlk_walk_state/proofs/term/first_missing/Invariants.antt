use Rattle.std.proofs.Common.{◌≡◌, length}
use Rattle.mlk_walk_state.specs.Terms.{first_missing}
use Rattle.mlk_walk_state.proofs.term.first_missing.Given as goal

abbrev pub invariant-loop-term : goal.invariant-loop-term
invariant-loop-term l = first_missing l.left l.held.items ≡ first_missing l.fn.terms l.fn.held.items

abbrev pub decreases-loop-term : goal.decreases-loop-term
decreases-loop-term l = length l.left
