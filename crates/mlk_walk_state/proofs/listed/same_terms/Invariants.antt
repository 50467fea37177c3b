use Rattle.std.proofs.Common.{◌≡◌, length}
use Rattle.mlk_walk_state.specs.Terms.{same_term}
use Rattle.mlk_walk_state.specs.Cases.{pairwise}
use Rattle.mlk_walk_state.proofs.listed.same_terms.Given as goal

abbrev pub invariant-loop-term : goal.invariant-loop-term
invariant-loop-term l = pairwise same_term l.left l.left_others ≡ pairwise same_term l.fn.terms l.fn.others

abbrev pub decreases-loop-term : goal.decreases-loop-term
decreases-loop-term l = length l.left
