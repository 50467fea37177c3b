-- What the readers of a line's commands establish about the rest of the line. For private clauses only. This project's own.
use Rattle.std.specs.Prelude.{ℕ, suc, ◌≡◌, ◌≤◌, ◌⊎◌, ◌==◌, ◌&&◌, is_some, map, drop, length, List, [], true, Result, Ok, Err}
use Rattle.std.specs.Prelude.{Option, Some, None}
use Rattle.std.specs.Prelude.{Vec}
use Rattle.std.proofs.Common.{Global}
use Rattle.mlk_dialect.specs.declared.dialect.Dialect.{Dialect}
use Rattle.mlk_text.specs.Lexemes.{word_at}
use Rattle.mlk_text.specs.Places.{column_at}
use Rattle.mlk_text.specs.declared.failure.Failure.{Failure}
use Rattle.mlk_text.specs.declared.fault.Fault.{Fault}
use Rattle.mlk_syntax.specs.declared.command.Command.{Command}
use Rattle.mlk_syntax.specs.Trees.{CommandTree, CommandTrees, ControlTree}
use Rattle.mlk_routine_arguments.specs.PartsRead.{Found, Nowhere, Denied}
use Rattle.mlk_routine_arguments.specs.CommandWords.{is_for}
use Rattle.mlk_routine_arguments.specs.CommandGrammar.{After, IsControl, IsForHead, AreCommands}
use Rattle.mlk_routine_arguments.specs.Ends.{is_commands_end, StopEnds, CommandsEnd}
use Rattle.mlk_syntax.specs.Views.{command_of, commands_from}
use Rattle.mlk_routine.specs.declared.command.Manner.{Manner}

-- how a command on a line of a level is read, inside `loops` FORs
abbrev pub manner_in : Dialect → ℕ → ℕ → Manner
manner_in d level loops = record { dialect = d; returns = (level == 1) && (loops == 0) }

-- whatever follows these commands from `next` on, everything from `at` on is there, or not there, together with it
abbrev pub LeadsTo : Dialect → ℕ → ℕ → List ℕ → ℕ → List CommandTree → ℕ → Type 0
LeadsTo d level loops line at done next = (next ≤ length line)
    × ((rest : CommandTrees) (end : ℕ) → Found (AreCommands d level loops) CommandsEnd line next rest end
    → Found (AreCommands d level loops) CommandsEnd line at (commands_from done rest) end)
    × (Nowhere (AreCommands d level loops) CommandsEnd line next → Nowhere (AreCommands d level loops) CommandsEnd line at)

-- up to the end of the commands, or to a FOR
abbrev pub Leads : Dialect → ℕ → ℕ → List ℕ → ℕ → Result (Vec Command Global × ℕ) (Failure Fault) → Type 0
Leads d level loops line at (Ok r) = LeadsTo d level loops line at (map command_of r.0.items) r.1
    × ((is_commands_end (drop r.1 line) ≡ true) ⊎ (is_for (word_at (drop r.1 line)).0 ≡ true))
Leads d level loops line at (Err e) = Denied (AreCommands d level loops) CommandsEnd line at e

-- FOR's variable and parameters, if it has any
abbrev pub IsPerhapsControl : ℕ → Option ControlTree → List ℕ → Type 0
IsPerhapsControl at None s = s ≡ []
IsPerhapsControl at (Some control) s = After 32 (λ n r. IsControl n control r) at s

-- a FOR inside `loops` others, without the rest of its line
abbrev pub IsLoop : ℕ → ℕ → Option ControlTree → List ℕ → Type 0
IsLoop loops at control s = IsForHead (column_at at) at control s × (suc loops ≤ 255)

abbrev pub LoopEnds : Option ControlTree → List ℕ → Type 0
LoopEnds control rest = StopEnds (is_some control) rest
