-- The result for a state that may be refused. This project's own.
use Rattle.std.specs.Prelude.{◌≡◌, Result, Ok, Err}
use Rattle.mlk_text.specs.declared.code.Code.{Code}
use Rattle.mlk_text.specs.declared.failure.Failure.{Failure}
use Rattle.mlk_text.specs.declared.failure.Failure.TheVariants.{OutOfMemory, Refused}
use Rattle.mlk_walk_state.specs.declared.state.State.{State}
use Rattle.mlk_walk_state.specs.declared.state.RefusedState.{RefusedState}

-- out of memory says nothing; a refusal has the definition's code, and the state as it was before
abbrev pub RefusedAs : {Y : Type 0} → State → Failure RefusedState → Result Y Code → Type 0
RefusedAs s OutOfMemory answer = Unit {0}
RefusedAs s (Refused r) answer = (answer ≡ Err r.code) × (r.state ≡ s)

-- The result for a state is that of the definition.
abbrev pub AnswersOf : {X Y : Type 0} → State → (X → Y) → Result X (Failure RefusedState) → Result Y Code → Type 0
AnswersOf s view (Ok x) answer = answer ≡ Ok (view x)
AnswersOf s view (Err e) answer = RefusedAs s e answer
