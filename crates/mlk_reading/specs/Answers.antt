-- What readers answer who read texts side by side. This project's own choice.
use Rattle.std.specs.Prelude.{◌≡◌, List, ◌∷◌, ◌++◌, Result, Ok, Err, map}
use Rattle.mlk_text.specs.declared.fault.Fault.{Fault}
use Rattle.mlk_text.specs.declared.failure.Failure.{Failure}
use Rattle.mlk_text.specs.declared.failure.Failure.TheVariants as failure
use Rattle.mlk_syntax.specs.declared.routine.Routine.{Routine}
use Rattle.mlk_syntax.specs.Views.{routine_of}
use Rattle.mlk_routine.specs.Refusals.{NoRoutine, Places}
use Rattle.mlk_reading.specs.declared.source.Source.{Source}
use Rattle.mlk_reading.specs.Reading.{IsRead}

-- the routine of a text, or why it is none
abbrev pub IsAnswer : Source → Result Routine (Failure Fault) → Type 0
IsAnswer source (Ok routine) = IsRead source (routine_of routine)
IsAnswer source (Err failure) = NoRoutine source.dialect source.stem.now source.text.items failure × Places source.stem.now source.text.items failure

-- The first failure, before which all is read. This and what follows only serve private clauses.
pub record IsFirst (answers : List (Result Routine (Failure Fault))) (failure : Failure Fault) : Type 0 where
  pub read : List Routine
  pub after : List (Result Routine (Failure Fault))
  pub cut : answers ≡ map Ok read ++ Err failure ∷ after

-- the failure that is reported. Out of memory promises nothing.
abbrev pub IsFirstError : List (Result Routine (Failure Fault)) → Failure Fault → Type 0
IsFirstError answers failure.OutOfMemory = Unit {0}
IsFirstError answers (failure.Refused fault) = IsFirst answers (failure.Refused fault)
