-- What names are bound to at each moment of a job's run. Restates ISO/IEC 11756, NEW and parameter passing: what is new
-- has no value, and is gone at the end of its block or frame. Generations are this project's own.
use Rattle.std.specs.Prelude.{◌≡◌, ℕ, ◌<◌, ◌≤◌, true, Bool, List, [], ◌∷◌, ◌++◌, None, Ok, Contains}
use Rattle.mlk_names.specs.declared.lock_name.LockName.{LockName}
use Rattle.mlk_syntax.specs.Trees.{RoutineTree}
use Rattle.mlk_machine_jobs.specs.declared.choice.Choice.{Choice}
use Rattle.mlk_machine_jobs.specs.Bindings.{Names, Only, AllBut, covers, Cell, Fresh, ByReference, Bindings, look}
use Rattle.mlk_machine_jobs.specs.Tasks.{Task, Job, NewNames, KillNames, Mark, BlockMark, FrameMark, marks}
use Rattle.mlk_machine_jobs.specs.Runs.{go}

-- all cells that names are bound to are of earlier generations
abbrev pub Below : ℕ → Bindings → Type 0
Below g [] = 0 < g
Below g (Fresh h names ∷ bs) = (h < g) × Below g bs
Below g (ByReference formal cell ∷ bs) = (cell.generation < g) × Below g bs

-- What the innermost block or frame restores is a tail of its bindings, and likewise for those around it.
abbrev pub AreNested : Bindings → List Mark → Type 0
AreNested bs [] = Unit {0}
AreNested bs (BlockMark back next test ∷ ms) = (front : Bindings) × (bs ≡ front ++ back) × AreNested back ms
AreNested bs (FrameMark frame back next routine ∷ ms) = (front : Bindings) × (bs ≡ front ++ back) × AreNested back ms

-- So ending one means cutting a list. No binder has a generation that is not used yet, and no cell of such a generation has a
-- value.
pub record IsTidy (j : Job) : Type 0 where
  pub nested : AreNested j.bindings (marks j.tasks)
  pub older : Below j.next j.bindings
  pub unset : (c : Cell) → j.next ≤ c.generation → j.cells c ≡ None

-- names are new: they have no value, and share no cell with another name
pub record AreNew (names : Names) (j : Job) : Type 0 where
  pub unset : (n : List ℕ) → covers names n ≡ true → j.cells (look j.bindings n) ≡ None
  pub alone : (n m : List ℕ) → covers names n ≡ true → look j.bindings m ≡ look j.bindings n → m ≡ n

-- if the next step makes names new, they are new after it
abbrev pub MakesNew : List RoutineTree → Job → Type 0
MakesNew routines j = (names : Names) (ts : List Task) (free : LockName → Bool) (c : Choice) (i : Job)
    → j.tasks ≡ NewNames names ∷ ts → go routines free c j ≡ Ok i → AreNew names i

-- the name is listed as one that an exclusive KILL spares
abbrev pub IsListed : Names → List ℕ → Type 0
IsListed (Only name) n = ⊥
IsListed (AllBut names) n = Contains names n

-- The effect of KILL: cells of its names have no value, unless a spared name has the same cell; each spared name keeps its
-- value; and so does every cell that belongs to none of its names.
pub record AreKilled (names : Names) (j i : Job) : Type 0 where
  pub gone : (n : List ℕ) → covers names n ≡ true → ((m : List ℕ) → IsListed names m → look j.bindings m ≡ look j.bindings n → ⊥)
      → i.cells (look j.bindings n) ≡ None
  pub left : (m : List ℕ) → IsListed names m → i.cells (look j.bindings m) ≡ j.cells (look j.bindings m)
  pub others : (c : Cell) → ((n : List ℕ) → covers names n ≡ true → look j.bindings n ≡ c → ⊥) → i.cells c ≡ j.cells c

-- if the next step kills names, that is its effect on their cells
abbrev pub Kills : List RoutineTree → Job → Type 0
Kills routines j = (names : Names) (ts : List Task) (free : LockName → Bool) (c : Choice) (i : Job)
    → j.tasks ≡ KillNames names ∷ ts → go routines free c j ≡ Ok i → AreKilled names j i
