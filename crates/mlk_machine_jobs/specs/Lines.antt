-- Lines, their commands, FOR, and what is skipped or quit. Restates ISO/IEC 11756, line structure, FOR, IF, ELSE, QUIT; that a
-- job does not continue into a line with a formal list is this project's own choice.
use Rattle.std.specs.Prelude.{ℕ, Bool, true, false, ◌||◌, if◌then◌else◌, List, [], ◌∷◌, ◌++◌, Option, Some, None, Ok, Err}
use Rattle.mlk_machine_locks.specs.declared.refusal.Refusal.TheVariants.{NotEnabled}
use Rattle.mlk_syntax.specs.ExprTrees.{Tree, Choices, no_choices, choice}
use Rattle.mlk_syntax.specs.Trees.{ParameterTree, Once, Endless, Limited, ControlTree, Runs}
use Rattle.mlk_syntax.specs.Trees.{CommandTree, Does, CommandTrees, finished, then_command, then_for, LineHead, LineTrees}
use Rattle.mlk_machine_jobs.specs.Tasks as task
use Rattle.mlk_machine_jobs.specs.Tasks.{Task, Job, LineTree, AwaitsValue, HasValue}
use Rattle.mlk_machine_jobs.specs.Tasks.{RunLines, RunCommands, Parameters, Forever, NextValue, FirstRound, LaterRound, EndBlock, EndFrame}
use Rattle.mlk_machine_jobs.specs.Commands.{action_parts}
use Rattle.mlk_machine_jobs.specs.Choices.{Stepped, doing, dropped}

-- The continuation of a FOR after a round: before the first round nothing can be skipped or quit.
abbrev pub is_round : Task → Bool
is_round (Parameters v ps rest here) = true
is_round (Forever rest here) = true
is_round (NextValue v rest here) = true
is_round (LaterRound v ps rest here) = true
is_round t = false

abbrev pub is_end : Task → Bool
is_end (EndBlock back next test) = true
is_end (EndFrame frame back next routine) = true
is_end t = false

abbrev pub is_lines : Task → Bool
is_lines (RunLines lines) = true
is_lines t = false

-- the tasks from the first of a given kind on
abbrev pub from_first : (Task → Bool) → List Task → List Task
from_first is [] = []
from_first is (t ∷ ts) = if is t then t ∷ ts else from_first is ts

-- The rest of the line is skipped, up to the next round of its innermost FOR.
abbrev pub skipped : List Task → List Task
skipped = from_first (λ t. is_round t || is_lines t || is_end t)

-- The tasks that are left once the block, or if there is none the frame, is quit.
abbrev pub to_end : List Task → List Task
to_end = from_first is_end

-- QUIT ends the innermost FOR of its line, or if there is none the block, or if there is none the frame.
abbrev pub quit_from : List Task → List Task
quit_from [] = []
quit_from (t ∷ ts) = if is_round t then ts else to_end (t ∷ ts)

abbrev pub quit : List Task → List Task
quit ts = quit_from (skipped ts)

-- QUIT with a value: the frame of an extrinsic call keeps it, any other drops it.
abbrev pub answered : Job → List Task → Job
answered j (EndFrame (AwaitsValue test) back next routine ∷ ts) =
    doing (EndFrame (HasValue test) back next routine ∷ ts) j
answered j ts = doing ts (dropped 1 j)

-- the tasks after a condition, if that is true
abbrev pub tasks_if : Bool → List Task → List Task
tasks_if true ts = ts
tasks_if false ts = []

abbrev pub selected : Choices → List Task → Job → Stepped
selected no_choices ts j = Err NotEnabled
selected (choice condition value rest) ts j = Ok (doing (task.Evaluate condition ∷ task.Selected value rest ∷ ts) j)

abbrev pub chosen : Tree → Choices → List Task → Bool → Job → Stepped
chosen value others ts true j = Ok (doing (task.Evaluate value ∷ ts) j)
chosen value others ts false j = Ok (doing (task.Select others ∷ ts) j)

-- The next line; a job does not continue into a line with a formal list.
abbrev pub next_line : List LineTree → List Task → Job → Stepped
next_line [] ts j = Ok (doing ts j)
next_line ((LineHead n level end label None commands, block) ∷ lines) ts j =
    Ok (doing (RunCommands commands (LineHead n level end label None commands, block) ∷ RunLines lines ∷ ts) j)
next_line ((LineHead n level end label (Some formals) commands, block) ∷ lines) ts j = Err NotEnabled

-- The commands of a line: a command, after its postconditional if it has one; a FOR with the rest of the line.
abbrev pub command_parts : LineTrees → CommandTree → List Task
command_parts block (Does column None action) = action_parts block action
command_parts block (Does column (Some condition) action) =
    task.Evaluate condition ∷ task.Conditionally action block ∷ []

abbrev pub for_parts : Option ControlTree → CommandTrees → LineTree → Task
for_parts None rest here = Forever rest here
for_parts (Some (Runs column variable parameters)) rest here = Parameters variable parameters rest here

abbrev pub next_command : CommandTrees → LineTree → List Task → List Task
next_command finished here ts = ts
next_command (then_command first rest) here ts = command_parts here.1 first ++ RunCommands rest here ∷ ts
next_command (then_for column index control rest) here ts = for_parts control rest here ∷ ts

-- FOR: one parameter after another. Steps and limits are evaluated once, before the variable is set first.
abbrev pub parameter_parts : List ℕ → List ParameterTree → CommandTrees → LineTree → List Task
parameter_parts v [] rest here = []
parameter_parts v (Once t ∷ ps) rest here =
    task.Evaluate t ∷ task.StoreLast v ∷ RunCommands rest here ∷ Parameters v ps rest here ∷ []
parameter_parts v (Endless start step ∷ ps) rest here =
    task.Evaluate start ∷ task.Evaluate step ∷ task.Drop 1 ∷ task.StoreLast v ∷ RunCommands rest here
    ∷ NextValue v rest here ∷ []
parameter_parts v (Limited start step limit ∷ ps) rest here =
    task.Evaluate start ∷ task.Evaluate step ∷ task.Evaluate limit ∷ task.Drop 2 ∷ task.StoreLast v
    ∷ FirstRound v ps rest here ∷ []

-- a round is run, or the next parameter follows
abbrev pub first_round : List ℕ → List ParameterTree → CommandTrees → LineTree → Bool → List Task
first_round v ps rest here true = RunCommands rest here ∷ LaterRound v ps rest here ∷ []
first_round v ps rest here false = Parameters v ps rest here ∷ []

abbrev pub later_round : List ℕ → List ParameterTree → CommandTrees → LineTree → Bool → List Task
later_round v ps rest here true = task.StoreAny v ∷ RunCommands rest here ∷ LaterRound v ps rest here ∷ []
later_round v ps rest here false = Parameters v ps rest here ∷ []
