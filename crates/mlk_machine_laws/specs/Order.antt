-- The order in which a job acquires locks. This project's own choice: if all jobs follow one order of ranks, and need not
-- wait for what is below a lock of their own, no two of them can wait for each other.
use Rattle.std.specs.Prelude.{◌⊎◌, ℕ, ◌<◌, List}
use Rattle.mlk_names.specs.Lists.{Among}
use Rattle.mlk_names.specs.declared.lock_name.LockName.{LockName}
use Rattle.mlk_names.specs.LockNames.{IsAbove}
use Rattle.mlk_rules.specs.declared.family.Family.{Family}
use Rattle.mlk_rules.specs.Ranks.{NameHasRank}
use Rattle.mlk_machine_locks.specs.Waiting.{View, Holds, awaited}

-- The job holds the name or one above it: nobody else can hold a name that conflicts with it.
abbrev pub IsOwn : View → LockName → Type 0
IsOwn j n = (m : LockName) × Holds j m × IsAbove m n

-- The name has a rank, and each name that the job holds has a lower one.
pub record IsAboveAll (families : List Family) (j : View) (n : LockName) : Type 0 where
  pub rank : ℕ
  pub has : NameHasRank families n rank
  pub above : (m : LockName) → Holds j m → (r : ℕ) × NameHasRank families m r × (r < rank)

-- Each name that the job may have to wait for is its own, or has a rank above those of all that it holds.
abbrev pub ClaimsInOrder : List Family → View → Type 0
ClaimsInOrder families j = (n : LockName) → Among n (awaited j.next) → IsOwn j n ⊎ IsAboveAll families j n
