-- When a job is safe for a number of steps. This project's own choice.
use Rattle.std.specs.Prelude.{◌≡◌, ℕ, zero, suc, Bool, true, false, List, ◌∷◌, Ok}
use Rattle.mlk_names.specs.declared.lock_name.LockName.{LockName}
use Rattle.mlk_syntax.specs.Trees.{RoutineTree}
use Rattle.mlk_machine_jobs.specs.declared.choice.Choice.{Choice}
use Rattle.mlk_machine_jobs.specs.Tasks.{Task, Job, marks, RunLines, RunCommands, NextArgument, StartJob}
use Rattle.mlk_machine_jobs.specs.Tasks.{DoTouch, Claim, Call, CallIf, Block, HaltJob, EndBlock, EndFrame}
use Rattle.mlk_machine_jobs.specs.Runs.{go}
use Rattle.mlk_walk_state.specs.declared.state.State.{State}
use Rattle.mlk_walk_state.specs.Scope.{Scope}
use Rattle.mlk_soundness_machine.specs.Listed.{FactsSince}
use Rattle.mlk_soundness_machine.specs.Described.{World, Level, Slot, idle, Describes}
use Rattle.mlk_soundness_machine.specs.History.{begun_after}
use Rattle.mlk_soundness_machine.specs.Marked.{Marked}

-- a task that touches and claims nothing; and one that, besides, moves on to no line, begins no commands, ends no argument and
-- starts no job
abbrev pub is_quiet : Task → Bool
is_quiet (DoTouch touch) = false
is_quiet (Claim names timed) = false
is_quiet t = true

abbrev pub is_plain : Task → Bool
is_plain (RunLines (l ∷ lines)) = false
is_plain (RunCommands rest here) = false
is_plain (NextArgument action count) = false
is_plain (StartJob callee given) = false
is_plain t = is_quiet t

-- a task that begins and ends no block and no frame
abbrev pub is_steady : Task → Bool
is_steady (Call extrinsic callee actuals) = false
is_steady (CallIf callee actuals) = false
is_steady (Block lines) = false
is_steady HaltJob = false
is_steady (EndBlock back next test) = false
is_steady (EndFrame frame back next routine) = false
is_steady t = true

-- the invariants of a job at each moment in a frame of this scope
abbrev pub KeepsTo : Scope → List Job → Job → Type 0
KeepsTo sc begun j = FactsSince sc.routines sc.rules (sc.blocks, sc.declared_entries) begun j

module _ (routines : List RoutineTree) (Fact : List Job → Job → Type 0) where
  -- the fact holds now, and after each of up to `n` steps, of the job and of what it was when its open frames began
  abbrev pub SafeFor : ℕ → List Job → Job → Type 0
  SafeFor zero begun j = Fact begun j
  SafeFor (suc n) begun j = Fact begun j
      × ((free : LockName → Bool) (c : Choice) (i : Job) → go routines free c j ≡ Ok i → SafeFor n (begun_after begun j i) i)

-- if the open blocks and frames are those of the world and the level, the job meets its invariants, and is safe for `n` steps
abbrev pub KeepsIn : Scope → World → Level → Job → Type 0
KeepsIn sc w b j = Marked sc w b (marks j.tasks) → KeepsTo sc w.begun j

abbrev pub SafeIn : List RoutineTree → Scope → World → Level → ℕ → Job → Type 0
SafeIn routines sc w b n j = Marked sc w b (marks j.tasks) → SafeFor routines (KeepsTo sc) n w.begun j

-- each job that the state describes and that has these tasks is safe
abbrev pub Fit : List RoutineTree → Scope → World → Level → List Slot → ℕ → List Task → State → Type 0
Fit routines sc w b slots n ts s = (j : Job) → Describes sc w b slots s (idle j) → j.tasks ≡ ts → SafeIn routines sc w b n j
