use Rattle.std.proofs.Common.{◌≡◌, length}
use Rattle.mlk_walk_state.specs.Terms.{all_taken}
use Rattle.mlk_walk_state.proofs.term.take_all.Given as goal

abbrev pub invariant-loop-term : goal.invariant-loop-term
invariant-loop-term l = all_taken l.left l.held.items ≡ all_taken l.fn.terms l.fn.held.items

abbrev pub decreases-loop-term : goal.decreases-loop-term
decreases-loop-term l = length l.left
