-- The definition's instructions, from those of the code, for clauses of private calls. This project's own.
use Rattle.std.specs.Prelude.{ℕ, List, Option, Some, None, option_map}
use Rattle.mlk_syntax.specs.Trees.{RoutineTree}
use Rattle.mlk_machine.specs.declared.event_line.EventLine.{EventLine}
use Rattle.mlk_machine.specs.EventReading.{line_at}
use Rattle.mlk_machine.specs.declared.instruction.Instruction.{Instruction}
use Rattle.mlk_machine.specs.declared.instruction.Instruction.TheVariants as instruction
use Rattle.mlk_machine.specs.Files.{Asked, Happens, RunsAlone, asked}
use Rattle.mlk_machine.specs.Replays.{event_of}

abbrev pub asked_of : Instruction → Asked
asked_of (instruction.Happens e) = Happens (event_of e)
asked_of (instruction.RunsAlone k) = RunsAlone k

-- what a reader finds at the front of a file
abbrev pub asked_by : List RoutineTree → Option (EventLine × List ℕ) → Option (Asked × List ℕ)
asked_by routines None = None
asked_by routines (Some read) = option_map (λ a. (a, read.1)) (asked routines read.0)

unfoldable pub asked_at : List RoutineTree → List ℕ → Option (Asked × List ℕ)
asked_at routines xs = asked_by routines (line_at xs)
