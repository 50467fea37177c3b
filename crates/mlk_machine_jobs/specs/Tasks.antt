-- What a job is, and its tasks. Restates ISO/IEC 11756, the process and its stack; the tasks are this project's own. A job takes
-- its first task, which is replaced by its parts until it is a single step.
use Rattle.std.specs.Prelude.{ℕ, Bool, List, [], ◌∷◌}
use Rattle.mlk_text.specs.declared.operator.Op.{Op}
use Rattle.mlk_text.specs.declared.operator.UnaryOp.{UnaryOp}
use Rattle.mlk_names.specs.declared.lock_name.LockName.{LockName}
use Rattle.mlk_names.specs.References.{Touch}
use Rattle.mlk_names.specs.declared.reference.Extent.{Extent}
use Rattle.mlk_names.specs.declared.reference.Access.{Access}
use Rattle.mlk_syntax.specs.declared.expr.Callee.{Callee}
use Rattle.mlk_syntax.specs.ExprTrees.{Tree, Choices, ActualTree}
use Rattle.mlk_syntax.specs.declared.command.Sign.{Sign}
use Rattle.mlk_syntax.specs.Trees.{VariableTree, TargetTree, ActionTree, CommandTrees, ParameterTree, HeadTree, LineTrees}
use Rattle.mlk_machine_jobs.specs.Bindings.{Names, Bindings, Cells}
use Rattle.mlk_machine_locks.specs.Counts.{Counts}

-- What a frame owes: one that a job or DO begins returns no value; one of an extrinsic call returns a value and restores
-- `$TEST`, and has its value already if QUIT had an argument.
pub data Frame : Type 0 where
  NoValue : Frame
  AwaitsValue : (test : Bool) → Frame
  HasValue : (test : Bool) → Frame

-- a line of a level, with its block
abbrev pub LineTree : Type 0
LineTree = HeadTree × LineTrees

pub data Task : Type 0 where
  -- Expressions. Each pushes one value.
  Evaluate : (t : Tree) → Task
  Push : (value : List ℕ) → Task
  Fetch : (name : List ℕ) → Task
  PushJob : Task
  PushTest : Task
  ApplyUnary : (op : UnaryOp) → Task
  ApplyBinary : (op : Op) → Task
  -- drops `count` values, and pushes any value
  AskValue : (count : ℕ) → Task
  -- drops `count` values
  Drop : (count : ℕ) → Task
  -- `$SELECT`: its conditions from here on; the value for a condition that was evaluated, and the conditions after it
  Select : (choices : Choices) → Task
  Selected : (value : Tree) → (others : Choices) → Task
  -- a global with `count` subscripts, which were evaluated; and the reference itself, which is touched in one step
  FormReference : (name : List ℕ) → (count : ℕ) → (extent : Extent) → (access : Access) → Task
  DoTouch : (touch : Touch) → Task
  -- Locals. A given value is stored, any value, or the last one.
  Store : (name value : List ℕ) → Task
  StoreAny : (name : List ℕ) → Task
  StoreLast : (name : List ℕ) → Task
  KillNames : (names : Names) → Task
  NewNames : (names : Names) → Task
  -- SET: the targets, whose subscripts and arguments were evaluated before the value; MERGE: both sides
  Assign : (targets : List TargetTree) → Task
  Merge : (target source : VariableTree) → Task
  -- Conditions. `$TEST` is set by the last value, or by a choice; the rest of the line is skipped if `$TEST` is `test`.
  SetTest : Task
  AskTest : Task
  SkipIf : (test : Bool) → Task
  -- a command whose postconditional was evaluated, on a line with a given block
  Conditionally : (action : ActionTree) → (block : LineTrees) → Task
  -- Locks. The names of an argument, whose subscripts were evaluated, and then the names themselves.
  LockNamed : (sign : Sign) → (names : List VariableTree) → (timed : Bool) → Task
  Claim : (names : List LockName) → (timed : Bool) → Task
  Release : (names : List LockName) → Task
  ReleaseAll : Task
  -- Calls. The actuals were evaluated, and the postconditional of the argument if it has one.
  Call : (extrinsic : Bool) → (callee : Callee) → (actuals : List ActualTree) → Task
  CallIf : (callee : Callee) → (actuals : List ActualTree) → Task
  Block : (lines : LineTrees) → Task
  -- GOTO, and GOTO with a postconditional of its own, which was evaluated
  GoTo : (callee : Callee) → Task
  GoIf : (callee : Callee) → Task
  -- JOB: the actuals were evaluated.
  StartJob : (callee : Callee) → (actuals : List ActualTree) → Task
  -- Lines and commands; the commands are the rest of a line.
  RunLines : (lines : List LineTree) → Task
  RunCommands : (commands : CommandTrees) → (here : LineTree) → Task
  -- after `done` arguments of a command
  NextArgument : (action : ActionTree) → (done : ℕ) → Task
  -- FOR: the remaining parameters; each round of one without an argument; the next value of one without a limit; whether a first
  -- round, or another one, is run if there is a limit
  Parameters : (variable : List ℕ) → (parameters : List ParameterTree) → (rest : CommandTrees) → (here : LineTree)
      → Task
  Forever : (rest : CommandTrees) → (here : LineTree) → Task
  NextValue : (variable : List ℕ) → (rest : CommandTrees) → (here : LineTree) → Task
  FirstRound : (variable : List ℕ) → (parameters : List ParameterTree) → (rest : CommandTrees) → (here : LineTree)
      → Task
  LaterRound : (variable : List ℕ) → (parameters : List ParameterTree) → (rest : CommandTrees) → (here : LineTree)
      → Task
  -- The ends of what a job is in. QUIT and HALT remove tasks.
  QuitHere : Task
  QuitWithValue : Task
  HaltJob : Task
  -- The end of a block, and of a frame: the bindings, the first unused generation, `$TEST` and the routine, by its index, as they
  -- were at its begin.
  EndBlock : (back : Bindings) → (next : ℕ) → (test : Bool) → Task
  EndFrame : (frame : Frame) → (back : Bindings) → (next routine : ℕ) → Task

pub record Job : Type 0 where
  pub number : ℕ
  pub test : Bool
  -- the index of the running routine
  pub routine : ℕ
  pub bindings : Bindings
  -- the first generation that no binder has
  pub next : ℕ
  pub cells : Cells
  -- values that were computed and not used yet, the last one first
  pub values : List (List ℕ)
  pub held : Counts
  pub tasks : List Task
  pub stopped : Bool

-- The open blocks and frames of a job, the innermost first: what each restores at its end.
pub data Mark : Type 0 where
  BlockMark : (back : Bindings) → (next : ℕ) → (test : Bool) → Mark
  FrameMark : (frame : Frame) → (back : Bindings) → (next routine : ℕ) → Mark

abbrev pub marks : List Task → List Mark
marks [] = []
marks (EndBlock back next test ∷ ts) = BlockMark back next test ∷ marks ts
marks (EndFrame frame back next routine ∷ ts) = FrameMark frame back next routine ∷ marks ts
marks (t ∷ ts) = marks ts
