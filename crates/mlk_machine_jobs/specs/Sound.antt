-- The invariant of a job of the code: the cell to which a name is bound has a table, now and at the end of each block and
-- frame that the job is in. This project's own.
use Rattle.std.specs.Prelude.{ℕ, ◌<◌, ◌≤◌, List, [], ◌∷◌, length, take, reverse}
use Rattle.mlk_machine_jobs.specs.declared.binding.Binder.{Binder as BinderIn}
use Rattle.mlk_machine_jobs.specs.declared.job.Job.{Job as JobIn}
use Rattle.mlk_machine_jobs.specs.declared.pending.Back.{Back}
use Rattle.mlk_machine_jobs.specs.declared.pending.Pending.{Pending}
use Rattle.mlk_machine_jobs.specs.declared.pending.Pending.TheVariants as pending
use Rattle.mlk_machine_jobs.specs.Bindings.{look}
use Rattle.mlk_machine_jobs.specs.Views.{bindings_of}

abbrev pub HaveTables : ℕ → List BinderIn → Type 0
HaveTables n bs = (name : List ℕ) → (look (bindings_of bs) name).generation < n

-- the situation at a begin, inside at most `count` binders and `n` tables
pub record IsWithin (bs : List BinderIn) (count n : ℕ) (back : Back) : Type 0 where
  pub binders : back.binders ≤ count
  pub next : back.next ≤ n
  pub tables : HaveTables back.next (take back.binders bs)

-- the ends, the innermost first
abbrev pub AreNested : List BinderIn → ℕ → ℕ → List Pending → Type 0
AreNested bs count n [] = Unit {0}
AreNested bs count n (pending.Task t ∷ ps) = AreNested bs count n ps
AreNested bs count n (pending.EndBlock back test ∷ ps) =
    IsWithin bs count n back × AreNested bs back.binders back.next ps
AreNested bs count n (pending.EndFrame frame back routine ∷ ps) =
    IsWithin bs count n back × AreNested bs back.binders back.next ps

-- about the binders, the number of tables, and the pending items
pub record Stands (bs : List BinderIn) (n : ℕ) (ps : List Pending) : Type 0 where
  pub tables : HaveTables n bs
  pub nested : AreNested bs (length bs) n (reverse ps)

abbrev pub Sound : JobIn → Type 0
Sound j = Stands j.binders.items (length j.tables.items) j.pending.items
