-- The tasks of arguments of commands, in parts. This project's own.
use Rattle.std.specs.Prelude.{ℕ, false, List, [], ◌∷◌, ◌++◌, flat_map, Option, Some, None}
use Rattle.mlk_syntax.specs.ExprTrees.{Tree, ActualTree}
use Rattle.mlk_syntax.specs.Trees.{VariableTree, DoTree, KillTree, LockTree, NewTree, ActionTree, LineTrees}
use Rattle.mlk_machine_jobs.specs.Bindings.{AllBut}
use Rattle.mlk_machine_jobs.specs.Tasks.{Task, Evaluate, AskValue, Drop, StoreLast, SkipIf}
use Rattle.mlk_machine_jobs.specs.Tasks.{KillNames, NewNames, ReleaseAll, QuitHere, QuitWithValue}
use Rattle.mlk_machine_jobs.specs.Expressions.{each_actual}
use Rattle.mlk_machine_jobs.specs.Commands.{count_in, evaluated_if, store_last, in_time, block_parts}
use Rattle.mlk_machine_jobs.specs.Commands.{do_parts, if_parts, kill_parts, lock_parts, new_parts, in_turn}

-- the tasks of READ after the evaluation of its length
abbrev pub read_after : VariableTree → Option Tree → List Task
read_after v timeout =
    evaluated_if timeout ++ AskValue (count_in v) ∷ store_last v ++ in_time timeout

-- stores the last value in a local, or drops it
abbrev pub stored_in : Option (List ℕ) → List Task
stored_in (Some name) = StoreLast name ∷ []
stored_in None = Drop 1 ∷ []

-- expressions, each for its value
abbrev pub each_value : List Tree → List Task
each_value ts = flat_map (λ t. Evaluate t ∷ []) ts

-- commands with lists of arguments that have a meaning of their own without arguments
abbrev pub do_all : LineTrees → ActionTree → List DoTree → List Task
do_all block action [] = block_parts block
do_all block action (c ∷ calls) = in_turn do_parts action 0 (c ∷ calls)

abbrev pub if_all : ActionTree → List Tree → List Task
if_all action [] = SkipIf false ∷ []
if_all action (t ∷ conditions) = in_turn if_parts action 0 (t ∷ conditions)

abbrev pub kill_all : ActionTree → List KillTree → List Task
kill_all action [] = KillNames (AllBut []) ∷ []
kill_all action (k ∷ kills) = in_turn kill_parts action 0 (k ∷ kills)

abbrev pub lock_all : ActionTree → List LockTree → List Task
lock_all action [] = ReleaseAll ∷ []
lock_all action (l ∷ locks) = in_turn lock_parts action 0 (l ∷ locks)

abbrev pub new_all : ActionTree → List NewTree → List Task
new_all action [] = NewNames (AllBut []) ∷ []
new_all action (n ∷ news) = in_turn new_parts action 0 (n ∷ news)

abbrev pub quit_parts : Option Tree → List Task
quit_parts None = QuitHere ∷ []
quit_parts (Some t) = Evaluate t ∷ QuitWithValue ∷ []
