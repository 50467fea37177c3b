-- What a refused text is not, with which code it is refused, and where. This project's own.
use Rattle.std.specs.Prelude.{ℕ, suc, ◌≡◌, ◌<◌, ◌⊎◌, List, ◌∷◌, length, map, drop, None}
use Rattle.bstr.specs.Text.{lines_of, without_terminator}
use Rattle.mlk_dialect.specs.declared.dialect.Dialect.{Dialect}
use Rattle.mlk_text.specs.Spellings.{IsName}
use Rattle.mlk_text.specs.declared.code.Code.{Code}
use Rattle.mlk_text.specs.declared.code.Code.TheVariants.{RoutineName, TooLarge}
use Rattle.mlk_text.specs.declared.failure.Failure.{Failure}
use Rattle.mlk_text.specs.declared.failure.Failure.TheVariants.{OutOfMemory, Refused}
use Rattle.mlk_text.specs.declared.fault.Fault.{Fault}
use Rattle.mlk_text.specs.Failures.{IfRefused}
use Rattle.mlk_routine_arguments.specs.Faults.{IsLineFault}
use Rattle.mlk_syntax.specs.Trees.{RoutineTree}
use Rattle.mlk_routine.specs.RoutineGrammar.{percent, IsRoutine}

-- if it is refused, unless memory ran out, it is not a routine
abbrev pub NoRoutine : Dialect → List ℕ → List ℕ → Failure Fault → Type 0
NoRoutine d stem text OutOfMemory = Unit {0}
NoRoutine d stem text (Refused fault) = (tree : RoutineTree) → IsRoutine d stem tree text → ⊥

-- A fault with the given code, at the first byte of the routine.
pub record IsOfWhole (code : Code) (routine : List ℕ) (fault : Fault) : Type 0 where
  pub coded : fault.code ≡ code
  pub bare : fault.left_out ≡ None
  pub named : fault.place.routine ≡ routine
  pub on_line : fault.place.line ≡ 1
  pub first : fault.place.column ≡ 1

-- A fault of one of the given lines, which are those of the routine.
pub record IsOfLine (routine : List ℕ) (lines : List (List ℕ)) (fault : Fault) : Type 0 where
  pub before : ℕ
  pub line : List ℕ
  pub after : List (List ℕ)
  pub there : drop before lines ≡ line ∷ after
  pub on_line : fault.place.line ≡ suc before
  pub named : fault.place.routine ≡ routine
  pub told : IsLineFault line fault

-- the lines of any text, without their terminators
abbrev pub lines_in : List ℕ → List (List ℕ)
lines_in text = map without_terminator (lines_of text)

-- whether a text exceeds a limit of routines: that on bytes or that on lines
abbrev pub IsPastLimit : List ℕ → Type 0
IsPastLimit text = (1048576 < length text) ⊎ (65535 < length (lines_in text))

-- A refusal is of the stem, which is not a name; of a text beyond a limit; or of a line.
abbrev pub IsRefusedBy : List ℕ → List ℕ → Fault → Type 0
IsRefusedBy stem text fault = ((IsName (percent stem) → ⊥) × IsOfWhole RoutineName stem fault)
    ⊎ (IsPastLimit text × IsOfWhole TooLarge (percent stem) fault)
    ⊎ IsOfLine (percent stem) (lines_in text) fault

abbrev pub Places : List ℕ → List ℕ → Failure Fault → Type 0
Places stem text failure = IfRefused failure (IsRefusedBy stem text)
