-- How a job begins and is aborted, and the machine of all jobs of a program. This project's own: M's standard describes a single
-- process.
use Rattle.std.specs.Prelude.{ℕ, nat_lt, ◌&&◌, Bool, true, false, if◌then◌else◌, List, []}
use Rattle.std.specs.Prelude.{◌∷◌, length, reverse, map, Option, Some, None, Ok, Err}
use Rattle.mlk_names.specs.declared.lock_name.LockName.{LockName}
use Rattle.mlk_machine_locks.specs.declared.refusal.Refusal.TheVariants.{NotEnabled, BadChoice}
use Rattle.mlk_machine_locks.specs.Waiting.{Claim, View}
use Rattle.mlk_machine_locks.specs.Systems.{Machine}
use Rattle.mlk_syntax.specs.ExprTrees.{ActualTree, Given, Missing, Lit}
use Rattle.mlk_syntax.specs.Trees.{RoutineTree}
use Rattle.mlk_program.specs.declared.entry.EntryId.{EntryId}
use Rattle.mlk_machine_jobs.specs.declared.choice.Choice.{Choice}
use Rattle.mlk_machine_jobs.specs.Bindings.{no_values}
use Rattle.mlk_machine_jobs.specs.Tasks as task
use Rattle.mlk_machine_jobs.specs.Tasks.{Task, Job, LineTree, NoValue}
use Rattle.mlk_machine_jobs.specs.Choices.{Stepped}
use Rattle.mlk_machine_jobs.specs.Calling.{entered, formals_in, lines_after}
use Rattle.mlk_machine_jobs.specs.Advance.{advance}

-- A job before its first frame: no name has a new binding, nothing has a value, no lock is held.
abbrev pub present : List (Option (List ℕ)) → List (List ℕ)
present [] = []
present (None ∷ values) = present values
present (Some v ∷ values) = v ∷ present values

abbrev pub blank : ℕ → Bool → List (Option (List ℕ)) → Job
blank k test values = record {
  number = k;
  test = test;
  routine = 0;
  bindings = [];
  next = 1;
  cells = no_values;
  values = reverse (present values);
  held = [];
  tasks = [];
  stopped = false;
}

-- an actual for each: without a value it is missing
abbrev pub actual_for : Option (List ℕ) → ActualTree
actual_for None = Missing
actual_for (Some v) = Given (Lit v)

abbrev pub by_value : List (Option (List ℕ)) → List ActualTree
by_value values = map actual_for values

abbrev pub formals_at : List LineTree → ℕ
formals_at [] = 0
formals_at (l ∷ lines) = length (formals_in l.0)

-- A job begins at an entry as by a call, with an optional value for each of its first formals, at most as many as there are
-- formals.
abbrev pub begun : List RoutineTree → EntryId → ℕ → Bool → List (Option (List ℕ)) → Stepped
begun routines e k test values =
    if nat_lt (formals_at (lines_after routines e)) (length values) then Err BadChoice
    else entered NoValue e.routine (by_value values) (lines_after routines e) [] (blank k test values)

-- A job that is aborted holds no lock and does nothing more; one without tasks can't be aborted.
abbrev pub aborted : Job → List Task → Stepped
aborted j [] = Err NotEnabled
aborted j (t ∷ ts) = Ok (record j { held = []; tasks = []; stopped = true })

abbrev pub go : List RoutineTree → (LockName → Bool) → Choice → Job → Stepped
go routines free c j = advance routines free c j j.tasks

-- the claim that is the first task, if it is one
abbrev pub next_claim : List Task → Option Claim
next_claim (task.Claim names timed ∷ ts) = Some (record { names = names; timed = timed })
next_claim ts = None

abbrev pub seen : Job → View
seen j = record { number = j.number; held = j.held; next = next_claim j.tasks }

-- The numbers that jobs may have, from 1 to 4,294,967,295, as in files of events. This project's own choice.
abbrev pub is_job_number : ℕ → Bool
is_job_number k = nat_lt 0 k && nat_lt k 4294967296

-- The machine of these routines, whose jobs begin at declared entries.
abbrev pub machine : List RoutineTree → (EntryId → Bool) → Machine Job Choice EntryId
machine routines declared = record {
  view = seen;
  begin = λ e test values k. if declared e && is_job_number k then begun routines e k test values else Err NotEnabled;
  go = λ free c j. go routines free c j;
  abort = λ j. aborted j j.tasks;
}
