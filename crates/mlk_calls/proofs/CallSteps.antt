-- The call of a callee with a certificate.
use Rattle.std.proofs.Common.{◌≡◌, List, length, Some, ap, subst, ◌∙◌}
use Rattle.std.specs.Prelude.{Err}
use Rattle.mlk_text.specs.declared.failure.Failure.{Failure}
use Rattle.mlk_text.specs.declared.failure.Failure.TheVariants.{Refused}
use Rattle.mlk_text.specs.Failures.{FailsAs}
use Rattle.mlk_text.specs.declared.code.Code.{Code}
use Rattle.mlk_syntax.specs.declared.expr.Callee.{Callee}
use Rattle.mlk_syntax.specs.ExprTrees.{ActualTree}
use Rattle.mlk_walk_state.specs.declared.state.State.{State}
use Rattle.mlk_calls.specs.declared.call.Calling.{Calling}
use Rattle.mlk_walk_state.specs.States.{last_captured, without_last}
use Rattle.mlk_walk_state.specs.Scope.{Scope}
use Rattle.mlk_calls.specs.Calls.{Called, called, changed_by_call, call_changing, call_known, at_call}

-- the fault of the call
pub at_refused : (sc : Scope) (how : Calling) (callee : Callee) (given : List ActualTree) (s : State) (target : Called) (failure : Failure Code) (code : Code)
    → called sc callee ≡ Some target
    → FailsAs failure (call_changing sc how target (changed_by_call target.summary given) (last_captured (length given) s) (without_last (length given) s))
    → failure ≡ Refused code → at_call sc how callee given s ≡ Err code
at_refused sc how callee given s target failure code e h f =
    let answer = call_changing sc how target (changed_by_call target.summary given) (last_captured (length given) s) (without_last (length given) s) in
    let P : Failure Code → Type 0 = λ z. FailsAs z answer in
    ap (λ o. call_known sc how o given (last_captured (length given) s) (without_last (length given) s)) e ∙ subst P f h
