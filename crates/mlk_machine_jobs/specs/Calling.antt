-- Calls: the bindings of formals, and what the end of a block or frame restores; GOTO. Restates ISO/IEC 11756, parameter passing,
-- DO, extrinsic functions, QUIT, GOTO.
use Rattle.std.specs.Prelude.{ℕ, suc, ◌==◌, Bool, true, false, if◌then◌else◌, List, [], ◌∷◌, ◌++◌, drop}
use Rattle.std.specs.Prelude.{Option, Some, None, Ok, Err, slice_get}
use Rattle.mlk_machine_locks.specs.declared.refusal.Refusal.TheVariants.{NotEnabled}
use Rattle.mlk_syntax.specs.ExprTrees.{ActualTree, Given, ByRef, Missing}
use Rattle.mlk_syntax.specs.Trees.{HeadTree, LineHead, CommandTrees, RoutineTree}
use Rattle.mlk_program.specs.declared.entry.EntryId.{EntryId}
use Rattle.mlk_program.specs.Entries.{lines_in}
use Rattle.mlk_machine_jobs.specs.declared.choice.Choice.{Choice}
use Rattle.mlk_machine_jobs.specs.Bindings.{Only, Binder, Fresh, ByReference, Bindings, Cells, look, put_value, forgotten}
use Rattle.mlk_machine_jobs.specs.Tasks.{Task, Job, LineTree, Frame, NoValue, AwaitsValue, HasValue, RunLines, RunCommands, EndFrame}
use Rattle.mlk_machine_jobs.specs.Choices.{Stepped, without_choice, with_value, last_values, pushed, dropped, doing}
use Rattle.mlk_machine_jobs.specs.Locking.{tested}
use Rattle.mlk_machine_jobs.specs.Lines.{to_end}

-- the actual of the next formal: past the end of the list it is missing
abbrev pub next_actual : List ActualTree → ActualTree
next_actual [] = Missing
next_actual (a ∷ given) = a

abbrev pub later_actuals : List ActualTree → List ActualTree
later_actuals [] = []
later_actuals (a ∷ given) = given

-- A formal is bound to the cell of a name that is passed by reference, otherwise to a new one.
abbrev pub binder : Bindings → ℕ → List ℕ → ActualTree → Binder
binder caller g f (ByRef column name) = ByReference f (look caller name)
binder caller g f (Given t) = Fresh g (Only f)
binder caller g f Missing = Fresh g (Only f)

abbrev pub binders : Bindings → ℕ → List (List ℕ) → List ActualTree → List Binder
binders caller g [] given = []
binders caller g (f ∷ formals) given =
    binder caller g f (next_actual given) ∷ binders caller g formals (later_actuals given)

-- The cell of a formal that is passed by value has that value.
abbrev pub with_actuals : ℕ → List (List ℕ) → List ActualTree → List (List ℕ) → Cells → Cells
with_actuals g (f ∷ formals) (Given t ∷ given) (v ∷ values) cells =
    with_actuals g formals given values (put_value (record { generation = g; name = f }) v cells)
with_actuals g (f ∷ formals) (ByRef column name ∷ given) values cells = with_actuals g formals given values cells
with_actuals g (f ∷ formals) (Missing ∷ given) values cells = with_actuals g formals given values cells
with_actuals g formals given values cells = cells

-- the number of actuals that are passed by value
abbrev pub count_given : List ActualTree → ℕ
count_given [] = 0
count_given (Given t ∷ given) = suc (count_given given)
count_given (ByRef column name ∷ given) = count_given given
count_given (Missing ∷ given) = count_given given

abbrev pub formals_in : HeadTree → List (List ℕ)
formals_in (LineHead n level end label None commands) = []
formals_in (LineHead n level end label (Some formals) commands) = formals

abbrev pub commands_in : HeadTree → CommandTrees
commands_in (LineHead n level end label formals commands) = commands

-- the lines from an entry's own to the routine's end
abbrev pub lines_after : List RoutineTree → EntryId → List LineTree
lines_after routines e = from_its_own (slice_get routines e.routine)
  where
    from_its_own : Option RoutineTree → List LineTree
    from_its_own None = []
    from_its_own (Some tree) = drop e.line (lines_in tree)

abbrev pub call_frame : Bool → Job → Frame
call_frame true j = AwaitsValue j.test
call_frame false j = NoValue

-- A call: the formals are bound, the lines run, and the frame's end restores everything.
abbrev pub entered : Frame → ℕ → List ActualTree → List LineTree → List Task → Job → Stepped
entered frame r given [] ts j = Err NotEnabled
entered frame r given ((head, block) ∷ lines) ts j =
    let values = last_values (count_given given) j in
    Ok (record j {
      routine = r;
      bindings = binders j.bindings j.next (formals_in head) given ++ j.bindings;
      next = suc j.next;
      cells = with_actuals j.next (formals_in head) given values j.cells;
      values = drop (count_given given) j.values;
      tasks = RunCommands (commands_in head) (head, block) ∷ RunLines lines ∷ EndFrame frame j.bindings j.next j.routine ∷ ts;
    })

abbrev pub called : List RoutineTree → Frame → Option EntryId → List ActualTree → List Task → Job → Stepped
called routines frame None given ts j = Err NotEnabled
called routines frame (Some e) given ts j = entered frame e.routine given (lines_after routines e) ts j

-- DO with a label and a postconditional: if that is false, the values of the actuals are dropped
abbrev pub called_if : Bool → List RoutineTree → Option EntryId → List ActualTree → List Task → Job → Stepped
called_if true routines entry given ts j = called routines NoValue entry given ts j
called_if false routines entry given ts j = Ok (doing ts (dropped (count_given given) j))

-- GOTO of a label of the running routine: the lines from the label's own on replace what is left of the block, or if there is none
-- of the frame. Names, `$TEST` and locks stay. That no job goes into another routine so is this project's own choice.
abbrev pub gone : List RoutineTree → Option EntryId → List Task → Job → Stepped
gone routines None ts j = Err NotEnabled
gone routines (Some e) ts j =
    if e.routine == j.routine then Ok (doing (RunLines (lines_after routines e) ∷ to_end ts) j) else Err NotEnabled

-- the bindings are restored, and the cells that were created since then are removed
abbrev pub back_to : Bindings → ℕ → Job → Job
back_to back next j = record j { bindings = back; next = next; cells = forgotten next j.cells }

-- The end of a frame: that of an extrinsic call restores `$TEST`, and returns any value if QUIT provided none.
abbrev pub frame_end : Choice → Frame → Job → Stepped
frame_end c NoValue j = without_choice c (Ok j)
frame_end c (AwaitsValue test) j = with_value c (λ v. Ok (pushed v (tested test j)))
frame_end c (HasValue test) j = without_choice c (Ok (tested test j))
