-- Binders that come and go, and what is pending then.
use Rattle.std.proofs.Common.{◌≡◌, ◌∙◌, ◌<◌, ◌≤◌, ℕ, zero, suc, Bool, List, [], ◌∷◌, ◌++◌, length, take, map, reverse, min, refl, sym, ap, subst, arith, inl, inr}
use Rattle.std.proofs.Math.Nat.{min-eq_left}
use Rattle.std.proofs.lemmas.Bool.{cases_Bool}
use Rattle.std.proofs.lemmas.List.{reverse-append, map-append, take-append-le, take_all, length-append, length-take-le}
use Rattle.mlk_machine_jobs.specs.declared.binding.Binder.{Binder as BinderIn}
use Rattle.mlk_machine_jobs.specs.declared.binding.Binder.TheVariants as binder
use Rattle.mlk_machine_jobs.specs.declared.binding.Names.{Names as NamesIn}
use Rattle.mlk_machine_jobs.specs.declared.job.Job.{Job as JobIn}
use Rattle.mlk_machine_jobs.specs.declared.pending.Back.{Back}
use Rattle.mlk_machine_jobs.specs.declared.pending.Pending.{Pending}
use Rattle.mlk_machine_jobs.specs.declared.pending.Pending.TheVariants as pending
use Rattle.mlk_machine_jobs.specs.Bindings.{Bindings, Cells, covers, look, forgotten}
use Rattle.mlk_machine_jobs.specs.Bindings.{Binder}
use Rattle.mlk_machine_jobs.specs.Tasks as task
use Rattle.mlk_machine_jobs.specs.Tasks.{Task, LineTree}
use Rattle.mlk_machine_jobs.specs.TaskViews.{task_of, block_of}
use Rattle.mlk_machine_jobs.specs.declared.task.Task.{Task as TaskIn}
use Rattle.mlk_syntax.specs.declared.routine.Line.{Line}
use Rattle.mlk_syntax.specs.Views.{line_of, lines_from}
use Rattle.mlk_program.specs.Entries.{as_lines}
use Rattle.mlk_machine_jobs.specs.Views.{names_of, binder_of, bindings_of, value_at}
use Rattle.mlk_machine_jobs.specs.JobViews.{frame_of, job_of, pending_of, tasks_of}
use Rattle.mlk_machine_jobs.specs.Calling.{back_to}
use Rattle.mlk_machine_jobs.specs.Sound.{HaveTables, AreNested, Stands, Sound}
use Rattle.mlk_machine_steps.specs.Steps.{AreBack, IsBack, made_new}
use Rattle.mlk_machine_jobs.proofs.BinderLemmas.{newest}
use Rattle.mlk_machine_jobs.proofs.SoundLemmas.{wider, same_nested, stands_task}
use Rattle.mlk_machine_jobs.proofs.PendingLemmas.{tasks_after}

turned : {A B : Type 0} (f : A → B) (xs : List A) → reverse (map f xs) ≡ map f (reverse xs)
turned f [] = refl
turned f (x ∷ xs) =
    reverse-append (f x ∷ []) (map f xs)
    ∙ ap (λ ys. ys ++ f x ∷ []) (turned f xs)
    ∙ sym (map-append f (reverse xs) (x ∷ []))
    ∙ ap (map f) (sym (reverse-append (x ∷ []) xs))

both : (x y : Task) (xs ys : List Task) → x ≡ y → xs ≡ ys → x ∷ xs ≡ y ∷ ys
both x y xs ys e d = ap (λ (z : Task). z ∷ xs) e ∙ ap (λ (z : List Task). y ∷ z) d

same_each : (bs cs : List BinderIn) (c n : ℕ) (ps : List Pending) → ((k : ℕ) → k ≤ c → take k bs ≡ take k cs)
    → AreNested bs c n ps → map (pending_of bs) ps ≡ map (pending_of cs) ps
same_each bs cs c n [] e h = refl
same_each bs cs c n (pending.Task t ∷ ps) e h = both _ _ _ _ refl (same_each bs cs c n ps e h)
same_each bs cs c n (pending.EndBlock back test ∷ ps) e h =
    both _ _ _ _ (ap (λ (z : List BinderIn). task.EndBlock (bindings_of z) back.next test) (e back.binders h.0.binders))
    (same_each bs cs back.binders back.next ps (λ k l. e k (omega (arith, l, h.0.binders))) h.1)
same_each bs cs c n (pending.EndFrame frame back routine ∷ ps) e h =
    both _ _ _ _
    (ap (λ (z : List BinderIn). task.EndFrame (frame_of frame) (bindings_of z) back.next routine) (e back.binders h.0.binders))
    (same_each bs cs back.binders back.next ps (λ k l. e k (omega (arith, l, h.0.binders))) h.1)

pub same_tasks : (bs cs : List BinderIn) (c n : ℕ) (ps : List Pending) → ((k : ℕ) → k ≤ c → take k bs ≡ take k cs)
    → AreNested bs c n (reverse ps) → tasks_of bs ps ≡ tasks_of cs ps
same_tasks bs cs c n ps e h =
    turned (pending_of bs) ps ∙ same_each bs cs c n (reverse ps) e h ∙ sym (turned (pending_of cs) ps)

-- one more binder: what is pending stays the same
pub tasks_with_binder : (bs : List BinderIn) (b : BinderIn) (n : ℕ) (ps : List Pending) → Stands bs n ps
    → tasks_of (bs ++ b ∷ []) ps ≡ tasks_of bs ps
tasks_with_binder bs b n ps h =
    sym (same_tasks bs (bs ++ b ∷ []) (length bs) n ps (λ k l. sym (take-append-le k bs (b ∷ []) l)) h.nested)

new_cell : (bs : List BinderIn) (n : ℕ) (names : NamesIn) (name : List ℕ) → HaveTables n bs
    → (look (binder_of (binder.Fresh n names) ∷ bindings_of bs) name).generation < suc n
new_cell bs n names name h = elim (cases_Bool (covers (names_of names) name)) [
  | inl e ↦ rw e (omega arith)
  | inr e ↦ rw e (omega (arith, h name))
]

pub tables_with_new : (bs : List BinderIn) (n : ℕ) (names : NamesIn) → HaveTables n bs
    → HaveTables (suc n) (bs ++ binder.Fresh n names ∷ [])
tables_with_new bs n names h name =
    subst (λ (z : List Binder). (look z name).generation < suc n) (sym (newest bs (binder.Fresh n names)))
    (new_cell bs n names name h)

pub stands_with_new : (bs : List BinderIn) (n : ℕ) (names : NamesIn) (ps : List Pending) → Stands bs n ps
    → Stands (bs ++ binder.Fresh n names ∷ []) (suc n) ps
stands_with_new bs n names ps h = record {
  tables = tables_with_new bs n names h.tables;
  nested = wider (bs ++ binder.Fresh n names ∷ []) (length bs) (length (bs ++ binder.Fresh n names ∷ [])) n (suc n) (reverse ps)
      (omega (arith, length-append bs (binder.Fresh n names ∷ []))) (omega arith)
      (same_nested bs (bs ++ binder.Fresh n names ∷ []) (length bs) n (reverse ps)
      (λ k l. sym (take-append-le k bs (binder.Fresh n names ∷ []) l)) h.nested);
}

pub new_binder : (bs : List BinderIn) (b : BinderIn) → bindings_of (bs ++ b ∷ []) ≡ binder_of b ∷ bindings_of bs
new_binder bs b = newest bs b

-- back to fewer binders
taken : (bs : List BinderIn) (m k : ℕ) → k ≤ m → take k bs ≡ take k (take m bs)
taken bs zero zero l = refl
taken bs zero (suc k) l = absurd (omega (arith, l))
taken [] (suc m) zero l = refl
taken [] (suc m) (suc k) l = refl
taken (b ∷ bs) (suc m) zero l = refl
taken (b ∷ bs) (suc m) (suc k) l = ap (λ (z : List BinderIn). b ∷ z) (taken bs m k (omega (arith, l)))

pub tasks_back : (bs : List BinderIn) (n : ℕ) (ps : List Pending) (back : Back) → AreBack bs n ps back
    → tasks_of (take back.binders bs) ps ≡ tasks_of bs ps
tasks_back bs n ps back h =
    sym (same_tasks bs (take back.binders bs) back.binders back.next ps (taken bs back.binders) h.nested)

pub next_back : (bs : List BinderIn) (n : ℕ) (ps : List Pending) (back : Back) → AreBack bs n ps back
    → min back.next n ≡ back.next
next_back bs n ps back h = min-eq_left h.within.next

pub stands_back : (bs : List BinderIn) (n : ℕ) (ps : List Pending) (back : Back) → AreBack bs n ps back
    → Stands (take back.binders bs) back.next ps
stands_back bs n ps back h = record {
  tables = h.within.tables;
  nested = subst (λ (z : ℕ). AreNested (take back.binders bs) z back.next (reverse ps))
      (sym (length-take-le back.binders bs h.within.binders))
      (same_nested bs (take back.binders bs) back.binders back.next (reverse ps) (taken bs back.binders) h.nested);
}

-- a block begins
as_listed : (ls : List LineTree) → as_lines (lines_from ls) ≡ ls
as_listed [] = refl
as_listed (l ∷ ls) = ap (λ (z : List LineTree). l ∷ z) (as_listed ls)

pub lines_again : (ls : List Line) → as_lines (block_of ls) ≡ map line_of ls
lines_again ls = as_listed (map line_of ls)

pub block_begun : (bs : List BinderIn) (ps : List Pending) (n : ℕ) (test : Bool) (t : TaskIn)
    → tasks_of bs ((ps ++ pending.EndBlock (record { binders = length bs; next = n }) test ∷ []) ++ pending.Task t ∷ [])
    ≡ task_of t ∷ task.EndBlock (bindings_of bs) n test ∷ tasks_of bs ps
block_begun bs ps n test t =
    tasks_after bs (ps ++ pending.EndBlock (record { binders = length bs; next = n }) test ∷ []) (pending.Task t)
    ∙ ap (λ (z : List Task). task_of t ∷ z)
    (tasks_after bs ps (pending.EndBlock (record { binders = length bs; next = n }) test)
    ∙ ap (λ (z : List BinderIn). task.EndBlock (bindings_of z) n test ∷ tasks_of bs ps) (take_all (length bs) bs (omega arith)))

stands_block : (bs : List BinderIn) (n : ℕ) (ps : List Pending) (test : Bool) → Stands bs n ps
    → Stands bs n (ps ++ pending.EndBlock (record { binders = length bs; next = n }) test ∷ [])
stands_block bs n ps test h = record {
  tables = h.tables;
  nested = subst (λ (z : List Pending). AreNested bs (length bs) n z)
      (sym (reverse-append ps (pending.EndBlock (record { binders = length bs; next = n }) test ∷ []))) (
        record {
          binders = omega arith;
          next = omega arith;
          tables = subst (λ (z : List BinderIn). HaveTables n z) (sym (take_all (length bs) bs (omega arith))) h.tables;
        },
        h.nested,
      );
}

pub stands_with_block : (bs : List BinderIn) (n : ℕ) (ps : List Pending) (test : Bool) (t : TaskIn) → Stands bs n ps
    → Stands bs n ((ps ++ pending.EndBlock (record { binders = length bs; next = n }) test ∷ []) ++ pending.Task t ∷ [])
stands_with_block bs n ps test t h = stands_task bs n _ t (stands_block bs n ps test h)

-- a restored job, part by part
pub job_back : (j : JobIn) (back : Back) (bs : List BinderIn) (n : ℕ) (cells : Cells) → IsBack back j
    → bs ≡ take back.binders j.binders.items → n ≡ min back.next (length j.tables.items)
    → cells ≡ forgotten back.next (value_at j.tables.items)
    → record (job_of j) { bindings = bindings_of bs; next = n; cells = cells; tasks = tasks_of bs j.pending.items }
    ≡ back_to (bindings_of (take back.binders j.binders.items)) back.next (job_of j)
job_back j back bs n cells h e d v =
    ap (λ (z : List BinderIn). record (job_of j) {
      bindings = bindings_of z;
      next = n;
      cells = cells;
      tasks = tasks_of z j.pending.items;
    }) e
    ∙ ap (λ (z : ℕ). record (job_of j) {
      bindings = bindings_of (take back.binders j.binders.items);
      next = z;
      cells = cells;
      tasks = tasks_of (take back.binders j.binders.items) j.pending.items;
    }) (d ∙ next_back j.binders.items (length j.tables.items) j.pending.items back h)
    ∙ ap (λ (z : Cells). record (job_of j) {
      bindings = bindings_of (take back.binders j.binders.items);
      next = back.next;
      cells = z;
      tasks = tasks_of (take back.binders j.binders.items) j.pending.items;
    }) v
    ∙ ap (λ (z : List Task). record (job_of j) {
      bindings = bindings_of (take back.binders j.binders.items);
      next = back.next;
      cells = forgotten back.next (value_at j.tables.items);
      tasks = z;
    }) (tasks_back j.binders.items (length j.tables.items) j.pending.items back h)

pub sound_back : (j : JobIn) (back : Back) (bs : List BinderIn) (n : ℕ) → IsBack back j
    → bs ≡ take back.binders j.binders.items → n ≡ min back.next (length j.tables.items)
    → Stands bs n j.pending.items
sound_back j back bs n h e d =
    subst (λ (z : List BinderIn). Stands z n j.pending.items) (sym e)
    (subst (λ (z : ℕ). Stands (take back.binders j.binders.items) z j.pending.items)
    (sym (d ∙ next_back j.binders.items (length j.tables.items) j.pending.items back h))
    (stands_back j.binders.items (length j.tables.items) j.pending.items back h))

-- a job with new names, part by part
pub job_new : (j : JobIn) (names : NamesIn) (g : ℕ) (bs : List BinderIn) (n : ℕ) (cells : Cells) → Sound j
    → g ≡ length j.tables.items → bs ≡ j.binders.items ++ binder.Fresh g names ∷ []
    → n ≡ suc (length j.tables.items) → cells ≡ value_at j.tables.items
    → record (job_of j) { bindings = bindings_of bs; next = n; cells = cells; tasks = tasks_of bs j.pending.items }
    ≡ made_new (names_of names) (job_of j)
job_new j names g bs n cells h i e d v =
    let all : bs ≡ j.binders.items ++ binder.Fresh (length j.tables.items) names ∷ [] =
    e ∙ ap (λ (z : ℕ). j.binders.items ++ binder.Fresh z names ∷ []) i in
    ap (λ (z : List BinderIn). record (job_of j) {
      bindings = bindings_of z;
      next = n;
      cells = cells;
      tasks = tasks_of z j.pending.items;
    }) all
    ∙ ap (λ (z : Bindings). record (job_of j) {
      bindings = z;
      next = n;
      cells = cells;
      tasks = tasks_of (j.binders.items ++ binder.Fresh (length j.tables.items) names ∷ []) j.pending.items;
    }) (newest j.binders.items (binder.Fresh (length j.tables.items) names))
    ∙ ap (λ (z : ℕ). record (job_of j) {
      bindings = binder_of (binder.Fresh (length j.tables.items) names) ∷ bindings_of j.binders.items;
      next = z;
      cells = cells;
      tasks = tasks_of (j.binders.items ++ binder.Fresh (length j.tables.items) names ∷ []) j.pending.items;
    }) d
    ∙ ap (λ (z : Cells). record (job_of j) {
      bindings = binder_of (binder.Fresh (length j.tables.items) names) ∷ bindings_of j.binders.items;
      next = suc (length j.tables.items);
      cells = z;
      tasks = tasks_of (j.binders.items ++ binder.Fresh (length j.tables.items) names ∷ []) j.pending.items;
    }) v
    ∙ ap (λ (z : List Task). record (job_of j) {
      bindings = binder_of (binder.Fresh (length j.tables.items) names) ∷ bindings_of j.binders.items;
      next = suc (length j.tables.items);
      cells = value_at j.tables.items;
      tasks = z;
    }) (tasks_with_binder j.binders.items (binder.Fresh (length j.tables.items) names) (length j.tables.items) j.pending.items h)

pub sound_new : (j : JobIn) (names : NamesIn) (g : ℕ) (bs : List BinderIn) (n : ℕ) → Sound j
    → g ≡ length j.tables.items → bs ≡ j.binders.items ++ binder.Fresh g names ∷ []
    → n ≡ suc (length j.tables.items) → Stands bs n j.pending.items
sound_new j names g bs n h i e d =
    subst (λ (z : List BinderIn). Stands z n j.pending.items)
    (sym (e ∙ ap (λ (z : ℕ). j.binders.items ++ binder.Fresh z names ∷ []) i))
    (subst (λ (z : ℕ). Stands (j.binders.items ++ binder.Fresh (length j.tables.items) names ∷ []) z j.pending.items) (sym d)
    (stands_with_new j.binders.items (length j.tables.items) names j.pending.items h))
