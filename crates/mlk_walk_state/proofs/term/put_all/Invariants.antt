use Rattle.std.proofs.Common.{◌≡◌, length}
use Rattle.mlk_walk_state.specs.Terms.{add_terms}
use Rattle.mlk_walk_state.proofs.term.put_all.Given as goal

abbrev pub invariant-loop-term : goal.invariant-loop-term
invariant-loop-term l = add_terms l.left l.all.items ≡ add_terms l.fn.terms l.fn.held

abbrev pub decreases-loop-term : goal.decreases-loop-term
decreases-loop-term l = length l.left
