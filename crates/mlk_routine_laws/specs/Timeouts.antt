-- Calls in timeouts of READ, and of LOCK with `+`. It is not certain whether a timeout or the rest of its argument is evaluated
-- first. In a routine that was read that makes no difference: the timeout calls nothing or, in the extended dialect, the rest
-- touches no global and calls nothing. This project's own.
use Rattle.std.specs.Prelude.{ℕ, ◌≡◌, Bool, true, ◌&&◌, ◌||◌, List, Contains, Option, Some, None}
use Rattle.std.specs.List.{list_all}
use Rattle.mlk_dialect.specs.declared.dialect.Dialect.{Dialect}
use Rattle.mlk_dialect.specs.declared.dialect.Dialect.TheVariants as dialect
use Rattle.mlk_expr.specs.declared.context.Allows.TheVariants.{NoCalls}
use Rattle.mlk_expr.specs.Touches.{may_stand}
use Rattle.mlk_syntax.specs.ExprTrees.{Tree}
use Rattle.mlk_syntax.specs.declared.command.Sign.TheVariants as sign
use Rattle.mlk_syntax.specs.Trees.{LockTree, LockNames, ReadTree, ReadText, ReadFormat, ReadLine, ReadCharacter}
use Rattle.mlk_syntax.specs.Trees.{CommandTree, Does, Lock, Read, CommandTrees, finished, then_command, then_for}
use Rattle.mlk_syntax.specs.Trees.{HeadTree, LineHead, LineTrees, Named_routine}
use Rattle.mlk_routine_arguments.specs.CommandGrammar.{is_quiet, is_quiet_value}
use Rattle.mlk_routine.specs.RoutineGrammar.{IsRoutine, heads_of}

abbrev pub calls_nothing : Option Tree → Bool
calls_nothing None = true
calls_nothing (Some t) = may_stand NoCalls t

-- a timeout, by whether the rest of its argument is quiet: it touches no global and calls nothing
abbrev pub in_any_order : Dialect → Bool → Option Tree → Bool
in_any_order dialect.Standard quiet timeout = calls_nothing timeout
in_any_order dialect.Extended quiet timeout = quiet || calls_nothing timeout

-- an argument of LOCK; without `+`, nothing is said of it here
abbrev pub locks_in_any_order : Dialect → LockTree → Bool
locks_in_any_order d (LockNames sign.Plus names timeout) = in_any_order d (list_all is_quiet names) timeout
locks_in_any_order d l = true

abbrev pub reads_in_any_order : Dialect → ReadTree → Bool
reads_in_any_order d (ReadText prompt) = true
reads_in_any_order d (ReadFormat tab) = true
reads_in_any_order d (ReadLine v most timeout) = in_any_order d (is_quiet v && is_quiet_value most) timeout
reads_in_any_order d (ReadCharacter v timeout) = in_any_order d (is_quiet v) timeout

abbrev pub runs_in_any_order : Dialect → CommandTree → Bool
runs_in_any_order d (Does column condition (Lock locks)) = list_all (locks_in_any_order d) locks
runs_in_any_order d (Does column condition (Read reads)) = list_all (reads_in_any_order d) reads
runs_in_any_order d c = true

-- commands in a row, also behind a FOR
abbrev pub RunInAnyOrder : Dialect → CommandTrees → Type 0
RunInAnyOrder d finished = Unit {0}
RunInAnyOrder d (then_command c rest) = (runs_in_any_order d c ≡ true) × RunInAnyOrder d rest
RunInAnyOrder d (then_for column index control rest) = RunInAnyOrder d rest

abbrev pub LineInAnyOrder : Dialect → HeadTree → Type 0
LineInAnyOrder d (LineHead number level end label formals commands) = RunInAnyOrder d commands

abbrev pub TimeoutsInAnyOrder : Type 0
TimeoutsInAnyOrder = (d : Dialect) (stem text name : List ℕ) (lines : LineTrees) (head : HeadTree)
    → IsRoutine d stem (Named_routine name lines) text → Contains (heads_of lines) head → LineInAnyOrder d head
