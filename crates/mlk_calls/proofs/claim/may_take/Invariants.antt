use Rattle.std.proofs.Common.{◌≡◌, ◌+◌, length}
use Rattle.mlk_walk_state.specs.Scope.{scope_of}
use Rattle.mlk_calls.specs.Claims.{claim_fault, claim_refused, first_refused}
use Rattle.mlk_calls.proofs.claim.may_take.Given as goal

abbrev pub invariant-loop-term : goal.invariant-loop-term
invariant-loop-term l =
    (first_refused (claim_fault (scope_of l.scope) l.timed l.state.case.held) l.index l.left
    ≡ claim_refused (scope_of l.scope) l.timed l.state.case.held l.fn.terms) × (l.index + length l.left ≡ length l.fn.terms)

abbrev pub decreases-loop-term : goal.decreases-loop-term
decreases-loop-term l = length l.left
