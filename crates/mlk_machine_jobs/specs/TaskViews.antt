-- The definition's tasks, from those of the code. This project's own.
use Rattle.std.specs.Prelude.{◌≡◌, Bool, true, false, List, ◌++◌, map, option_map}
use Rattle.mlk_names.specs.References.{Touch}
use Rattle.mlk_syntax.specs.ExprTrees.{tree_of, choices, choices_from, actual_trees}
use Rattle.mlk_syntax.specs.declared.command.For.{For}
use Rattle.mlk_syntax.specs.declared.command.Commands.TheFolds.{fold-For}
use Rattle.mlk_syntax.specs.declared.routine.Line.{Line}
use Rattle.mlk_syntax.specs.Trees.{CommandTrees, LineTrees}
use Rattle.mlk_syntax.specs.Views.{commands_step, for_step, commands_from, last_or_none, command_of}
use Rattle.mlk_syntax.specs.Views.{line_of, lines_from, action_of, variable_of, target_of, parameter_of}
use Rattle.mlk_machine_jobs.specs.declared.task.Calling.{Calling}
use Rattle.mlk_machine_jobs.specs.declared.task.Calling.TheVariants as calling
use Rattle.mlk_machine_jobs.specs.declared.task.Rest.{Rest}
use Rattle.mlk_machine_jobs.specs.declared.task.Task.{Task as TaskIn}
use Rattle.mlk_machine_jobs.specs.declared.task.Task.TheVariants as here
use Rattle.mlk_machine_jobs.specs.declared.task.ValueTask.{ValueTask}
use Rattle.mlk_machine_jobs.specs.declared.task.ValueTask.TheVariants as a_value
use Rattle.mlk_machine_jobs.specs.declared.task.LocalTask.{LocalTask}
use Rattle.mlk_machine_jobs.specs.declared.task.LocalTask.TheVariants as a_local
use Rattle.mlk_machine_jobs.specs.declared.task.TestTask.{TestTask}
use Rattle.mlk_machine_jobs.specs.declared.task.TestTask.TheVariants as a_test
use Rattle.mlk_machine_jobs.specs.declared.task.LockTask.{LockTask}
use Rattle.mlk_machine_jobs.specs.declared.task.LockTask.TheVariants as a_lock
use Rattle.mlk_machine_jobs.specs.declared.task.ScopeTask.{ScopeTask}
use Rattle.mlk_machine_jobs.specs.declared.task.ScopeTask.TheVariants as a_scope
use Rattle.mlk_machine_jobs.specs.declared.task.LineTask.{LineTask}
use Rattle.mlk_machine_jobs.specs.declared.task.LineTask.TheVariants as a_line
use Rattle.mlk_machine_jobs.specs.declared.touch.Touch.{Touch as TouchIn}
use Rattle.mlk_machine_jobs.specs.Tasks as task
use Rattle.mlk_machine_jobs.specs.Tasks.{Task}
use Rattle.mlk_machine_jobs.specs.Views.{names_of}

abbrev pub is_extrinsic : Calling → Bool
is_extrinsic calling.ByDo = false
is_extrinsic calling.Extrinsic = true

-- a FOR with the rest of its line, and the rest of a line
abbrev pub for_of : For → CommandTrees
for_of f = fold-For CommandTrees CommandTrees commands_step for_step f

abbrev pub commands_left : Rest → CommandTrees
commands_left r = commands_from (map command_of r.commands.now) (last_or_none (option_map (λ f. for_of f.now) r.last))

abbrev pub block_of : List Line → LineTrees
block_of lines = lines_from (map line_of lines)

-- what is touched, and how
abbrev pub touch_of : TouchIn → Touch
touch_of t = record {
  region = record { node = record { root = t.root; subs = t.subs }; extent = t.extent };
  access = t.access;
}

abbrev pub value_task : ValueTask → Task
value_task (a_value.Evaluate e) = task.Evaluate (tree_of e.now)
value_task (a_value.Push value) = task.Push value.now
value_task (a_value.Fetch name) = task.Fetch name.now
value_task a_value.PushJob = task.PushJob
value_task a_value.PushTest = task.PushTest
value_task (a_value.ApplyUnary op) = task.ApplyUnary op
value_task (a_value.ApplyBinary op) = task.ApplyBinary op
value_task (a_value.AskValue n) = task.AskValue n
value_task (a_value.DropValues n) = task.Drop n
value_task (a_value.Select branches) = task.Select (choices_from (choices branches.now))
value_task (a_value.Selected value others) = task.Selected (tree_of value.now) (choices_from (choices others.now))
value_task (a_value.FormReference name n e a) = task.FormReference name.now n e a
value_task (a_value.DoTouch t) = task.DoTouch (touch_of t)

abbrev pub local_task : LocalTask → Task
local_task (a_local.Store name value) = task.Store name.now value
local_task (a_local.StoreAny name) = task.StoreAny name.now
local_task (a_local.StoreLast name) = task.StoreLast name.now
local_task (a_local.KillNames names) = task.KillNames (names_of names)
local_task (a_local.NewNames names) = task.NewNames (names_of names)
local_task (a_local.Assign targets) = task.Assign (map target_of targets.now)
local_task (a_local.Merge target source) = task.Merge (variable_of target.now) (variable_of source.now)

abbrev pub test_task : TestTask → Task
test_task a_test.SetTest = task.SetTest
test_task a_test.AskTest = task.AskTest
test_task (a_test.SkipIf test) = task.SkipIf test
test_task (a_test.Conditionally action block) = task.Conditionally (action_of action.now) (block_of block.now)

abbrev pub lock_task : LockTask → Task
lock_task (a_lock.LockNamed sign names timed) = task.LockNamed sign (map variable_of names.now) timed
lock_task (a_lock.Claim names timed) = task.Claim names.items timed
lock_task (a_lock.Release names) = task.Release names.items
lock_task a_lock.ReleaseAll = task.ReleaseAll

abbrev pub scope_task : ScopeTask → Task
scope_task (a_scope.Call how callee given) = task.Call (is_extrinsic how) callee.now (actual_trees given.now)
scope_task (a_scope.CallIf callee given) = task.CallIf callee.now (actual_trees given.now)
scope_task (a_scope.StartJob callee given) = task.StartJob callee.now (actual_trees given.now)
scope_task (a_scope.Block lines) = task.Block (block_of lines.now)
scope_task (a_scope.GoTo callee) = task.GoTo callee.now
scope_task (a_scope.GoIf callee) = task.GoIf callee.now

abbrev pub line_task : LineTask → Task
line_task (a_line.RunLines lines) = task.RunLines (map line_of lines.now)
line_task (a_line.RunCommands r) = task.RunCommands (commands_left r) (line_of r.line.now)
line_task (a_line.Parameters v ps r) =
    task.Parameters v.now (map parameter_of ps.now) (commands_left r) (line_of r.line.now)
line_task (a_line.Forever r) = task.Forever (commands_left r) (line_of r.line.now)
line_task (a_line.NextValue v r) = task.NextValue v.now (commands_left r) (line_of r.line.now)
line_task (a_line.FirstRound v ps r) =
    task.FirstRound v.now (map parameter_of ps.now) (commands_left r) (line_of r.line.now)
line_task (a_line.LaterRound v ps r) =
    task.LaterRound v.now (map parameter_of ps.now) (commands_left r) (line_of r.line.now)
line_task (a_line.NextArgument action done) = task.NextArgument (action_of action.now) done
line_task a_line.QuitHere = task.QuitHere
line_task a_line.QuitWithValue = task.QuitWithValue
line_task a_line.HaltJob = task.HaltJob

abbrev pub task_of : TaskIn → Task
task_of (here.Value t) = value_task t
task_of (here.Local t) = local_task t
task_of (here.Test t) = test_task t
task_of (here.Lock t) = lock_task t
task_of (here.Scope t) = scope_task t
task_of (here.Line t) = line_task t

-- these tasks are added
abbrev pub Adds : List Task → List TaskIn → List TaskIn → Type 0
Adds parts old new = map task_of new ≡ map task_of old ++ parts
