-- Laws of progress: which jobs can take a step.
use Rattle.std.specs.Prelude.{Bool, List}
use Rattle.mlk_syntax.specs.Trees.{RoutineTree}
use Rattle.mlk_program.specs.Program.{IsProgram}
use Rattle.mlk_program.specs.declared.entry.EntryId.{EntryId}
use Rattle.mlk_machine_jobs.specs.Tasks.{Job}
use Rattle.mlk_machine_laws.specs.Moments.{AtEachMoment}
use Rattle.mlk_machine_progress.specs.Progress.{HasEnough, LeavesBelow, Continues, IsGrantedSo}

-- At each moment of each run of one job, of any routines, its values are exactly enough for its tasks.
abbrev pub ValuesSuffice : Type 0
ValuesSuffice = (routines : List RoutineTree) (declared : EntryId → Bool) → AtEachMoment routines declared HasEnough

-- A step of any job, of any routines, uses up only the values that its task uses.
abbrev pub UsesNoMore : Type 0
UsesNoMore = (routines : List RoutineTree) (j : Job) → LeavesBelow routines j

-- At each moment of each run of one job of a program, the job has a next step exactly if it can take one.
abbrev pub JobsContinue : Type 0
JobsContinue = (routines : List RoutineTree) (declared : EntryId → Bool) → IsProgram routines
    → AtEachMoment routines declared (Continues routines)

-- Any job, of any routines, is granted a claim exactly if it is free.
abbrev pub ClaimsAreGranted : Type 0
ClaimsAreGranted = (routines : List RoutineTree) (j : Job) → IsGrantedSo routines j
