-- How a refusal is said. This project's own choice.
use Rattle.std.specs.Prelude.{◌≡◌, ℕ}
use Rattle.mlk_text.specs.declared.failure.Failure.{Failure}
use Rattle.mlk_text.specs.declared.failure.Failure.TheVariants as failure
use Rattle.mlk_machine.specs.declared.fault.EventsFault.{EventsFault}
use Rattle.mlk_pool.specs.declared.error.CheckError.{CheckError}
use Rattle.mlk_pool.specs.declared.error.CheckError.TheVariants as error
use Rattle.mlk_outcome.specs.declared.refusal.NoReport.{NoReport}
use Rattle.mlk_outcome.specs.declared.refusal.NoReport.TheVariants as refusal

-- memory ran out
abbrev pub no_memory : NoReport
no_memory = refusal.Check error.OutOfMemory

-- what is refused of events
abbrev pub refusal_of_events : Failure EventsFault → NoReport
refusal_of_events failure.OutOfMemory = no_memory
refusal_of_events (failure.Refused fault) = refusal.Events fault

-- the gate was open
abbrev pub IsOfOpenGate : CheckError → Type 0
IsOfOpenGate e = (task : ℕ) → e ≡ error.GateShut task → ⊥

abbrev pub IsNotShut : NoReport → Type 0
IsNotShut r = (task : ℕ) → r ≡ refusal.Check (error.GateShut task) → ⊥
