-- Which job waits for which. Restates ISO/IEC 11756, LOCK: a claim without a timeout waits until no other job holds a name that
-- conflicts with one that it claims; a claim with a timeout continues without them, so it never waits.
use Rattle.std.specs.Prelude.{◌≢◌, ℕ, ◌<◌, ◌==◌, Bool, ◌&&◌, not, if◌then◌else◌, List, [], Option, Some, None}
use Rattle.std.specs.List.{list_any}
use Rattle.mlk_names.specs.Lists.{Among}
use Rattle.mlk_names.specs.declared.lock_name.LockName.{LockName}
use Rattle.mlk_names.specs.LockNames.{Conflict}
use Rattle.mlk_machine_locks.specs.Counts.{Counts, count_of, excludes}

-- all names of one argument of LOCK, which are claimed in one step
pub record Claim : Type 0 where
  pub names : List LockName
  pub timed : Bool

-- what is visible of a job to other jobs: its number, what it holds, and the claim that is its next task, if it is one
pub record View : Type 0 where
  pub number : ℕ
  pub held : Counts
  pub next : Option Claim

abbrev pub Holds : View → LockName → Type 0
Holds j n = 0 < count_of j.held n

-- the names for which a job may have to wait
abbrev pub awaited : Option Claim → List LockName
awaited None = []
awaited (Some c) = if c.timed then [] else c.names

-- the job waits for the other: one of the names is kept from it by one that the other holds
pub record WaitsFor (a b : View) : Type 0 where
  pub other : a.number ≢ b.number
  pub name : LockName
  pub is_awaited : Among name (awaited a.next)
  pub kept : LockName
  pub is_kept : Holds b kept
  pub conflict : Conflict name kept

-- `WaitsFor` as a test
abbrev pub waits : View → View → Bool
waits a b = not (a.number == b.number) && list_any (excludes b.held) (awaited a.next)

-- `waits` for jobs of any kind, each by its view.
abbrev pub waits_as : {X : Type 0} → (X → View) → X → X → Bool
waits_as seen x y = waits (seen x) (seen y)

-- no job other than number k holds a conflicting name
abbrev pub is_free_among : {X : Type 0} → (X → View) → List X → ℕ → LockName → Bool
is_free_among seen jobs k n = not (list_any (λ j. not ((seen j).number == k) && excludes (seen j).held n) jobs)

-- some job has the given number
abbrev pub is_numbered : {X : Type 0} → (X → View) → List X → ℕ → Bool
is_numbered seen jobs k = list_any (λ j. (seen j).number == k) jobs
