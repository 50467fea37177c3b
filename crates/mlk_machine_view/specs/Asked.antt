-- What a job does next, depending on what a step needs. This project's own.
use Rattle.std.specs.Prelude.{ℕ, ◌==◌, Bool, true, false, if◌then◌else◌, List, [], ◌∷◌, Option, Some, None, is_some}
use Rattle.mlk_text.specs.declared.operator.Op.{Op}
use Rattle.mlk_text.specs.declared.operator.UnaryOp.{UnaryOp}
use Rattle.mlk_syntax.specs.ExprTrees.{Choices, no_choices, choice}
use Rattle.mlk_syntax.specs.Trees.{RoutineTree}
use Rattle.mlk_machine_locks.specs.Lists.{is_some_there}
use Rattle.mlk_program.specs.declared.entry.EntryId.{EntryId}
use Rattle.mlk_program.specs.Entries.{formals_of}
use Rattle.mlk_numbers.specs.Operators.{truth_of_text, fold_before, fold_between}
use Rattle.mlk_machine_jobs.specs.Tasks.{LineTree, Frame, NoValue, AwaitsValue, HasValue}
use Rattle.mlk_machine_jobs.specs.Calling.{lines_after}
use Rattle.mlk_machine_jobs.specs.Seen.{State, AsksChoice, Stuck, Silent}

-- a step that must be enabled
abbrev pub if_enabled : Bool → State
if_enabled true = Silent
if_enabled false = Stuck

-- a step that asks for a value unless it is known
abbrev pub if_known : Bool → State
if_known true = Silent
if_known false = AsksChoice

-- a local is read
abbrev pub by_value : Option (List ℕ) → State
by_value o = if_enabled (is_some o)

-- the last value is used
abbrev pub by_last : List (List ℕ) → State
by_last values = if_enabled (is_some_there values)

-- operators
abbrev pub by_unary : UnaryOp → List (List ℕ) → State
by_unary op [] = Stuck
by_unary op (a ∷ values) = if_known (is_some (fold_before op a))

abbrev pub by_binary : Op → List (List ℕ) → State
by_binary op [] = Stuck
by_binary op (b ∷ []) = Stuck
by_binary op (b ∷ a ∷ values) = if_known (is_some (fold_between op a b))

-- `$SELECT`: a condition is left
abbrev pub has_choices : Choices → Bool
has_choices no_choices = false
has_choices (choice condition value rest) = true

-- a truth value, and the states if it is true and if it is false
abbrev pub by_known_truth : Option Bool → State → State → State
by_known_truth None one other = AsksChoice
by_known_truth (Some true) one other = one
by_known_truth (Some false) one other = other

abbrev pub by_last_truth : List (List ℕ) → State → State → State
by_last_truth [] one other = Stuck
by_last_truth (v ∷ values) one other = by_known_truth (truth_of_text v) one other

-- a call
abbrev pub by_target : List RoutineTree → Option EntryId → State
by_target routines None = Stuck
by_target routines (Some e) = if_enabled (is_some_there (lines_after routines e))

-- GOTO from a line of this routine
abbrev pub by_goto : ℕ → Option EntryId → State
by_goto routine None = Stuck
by_goto routine (Some e) = if_enabled (e.routine == routine)

-- the next line
abbrev pub by_lines : List LineTree → State
by_lines [] = Silent
by_lines (l ∷ lines) = if is_some (formals_of l.0) then Stuck else Silent

-- the end of a frame
abbrev pub by_frame : Frame → State
by_frame NoValue = Silent
by_frame (AwaitsValue test) = AsksChoice
by_frame (HasValue test) = Silent
