-- The job at the begin of each open frame, at each moment of each run of its own. This project's own choice.
use Rattle.std.specs.Prelude.{◌≡◌, ℕ, Bool, List, [], ◌∷◌, Ok, Err, Option}
use Rattle.mlk_syntax.specs.Trees.{RoutineTree}
use Rattle.mlk_program.specs.declared.entry.EntryId.{EntryId}
use Rattle.mlk_machine_locks.specs.Systems.{Machine, Act, alone, lone_run}
use Rattle.mlk_machine_jobs.specs.Choices.{Stepped}
use Rattle.mlk_machine_jobs.specs.Runs.{machine}
use Rattle.mlk_machine_jobs.specs.Tasks.{Job}
use Rattle.mlk_machine_jobs.specs.declared.choice.Choice.{Choice}
use Rattle.mlk_soundness_machine.specs.History.{begun_after}

-- `more` of the job that a step yields; if it yields none, nothing is added
abbrev pub where_it_goes : List Job → (Job → List Job) → Stepped → List Job
where_it_goes begun more (Ok i) = more i
where_it_goes begun more (Err why) = begun

-- the job at the begin of each of its open frames, after these acts
abbrev pub begun_by : Machine Job Choice EntryId → List (Act Choice EntryId) → List Job → Job → List Job
begun_by m [] begun j = begun
begun_by m (a ∷ acts) begun j = where_it_goes begun (λ i. begun_by m acts (begun_after begun j i) i) (alone m a j)

-- At each moment of each run of one job, begun at a declared entry and granted each claim at any time: of the job, and of the
-- job at the begin of each of its open frames.
abbrev pub AtEachMomentSince : List RoutineTree → (EntryId → Bool) → (List Job → Job → Type 0) → Type 0
AtEachMomentSince routines declared Keeps =
    (e : EntryId) (test : Bool) (values : List (Option (List ℕ))) (k : ℕ) (first j : Job) (acts : List (Act Choice EntryId))
    → (machine routines declared).begin e test values k ≡ Ok first
    → lone_run (machine routines declared) acts first ≡ Ok j → Keeps (begun_by (machine routines declared) acts (first ∷ []) first) j
