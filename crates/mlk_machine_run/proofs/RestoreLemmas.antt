-- A job whose next task is removed, and restored if the step fails.
use Rattle.std.proofs.Common.{◌≡◌, ◌∙◌, ◌<◌, ℕ, zero, suc, Bool, List, [], ◌∷◌, ◌++◌, length, take, map, reverse, refl, sym, ap, subst}
use Rattle.std.specs.List.{list_all}
use Rattle.std.proofs.lemmas.List.{reverse-append, reverse-reverse}
use Rattle.mlk_names.specs.declared.lock_name.LockName.{LockName}
use Rattle.mlk_syntax.specs.Trees.{RoutineTree}
use Rattle.mlk_machine_jobs.specs.declared.choice.Choice.{Choice}
use Rattle.mlk_machine_jobs.specs.declared.binding.Binder.{Binder as BinderIn}
use Rattle.mlk_machine_jobs.specs.declared.job.Job.{Job as JobIn}
use Rattle.mlk_machine_jobs.specs.declared.pending.Back.{Back}
use Rattle.mlk_machine_jobs.specs.declared.pending.Frame.{Frame as FrameIn}
use Rattle.mlk_machine_jobs.specs.declared.pending.Pending.{Pending}
use Rattle.mlk_machine_jobs.specs.declared.pending.Pending.TheVariants as pending
use Rattle.mlk_machine_jobs.specs.Bindings.{Binder, Bindings, look}
use Rattle.mlk_machine_jobs.specs.Tasks as task
use Rattle.mlk_machine_jobs.specs.Tasks.{Task, Job}
use Rattle.mlk_machine_jobs.specs.Choices.{doing}
use Rattle.mlk_machine_jobs.specs.Advance.{advance}
use Rattle.mlk_machine_jobs.specs.Runs.{go}
use Rattle.mlk_machine_jobs.specs.Views.{binder_of, bindings_of}
use Rattle.mlk_machine_jobs.specs.JobViews.{frame_of, job_of, pending_of, tasks_of}
use Rattle.mlk_machine_jobs.specs.Sound.{HaveTables, IsWithin, AreNested, Stands, Sound}
use Rattle.mlk_machine_steps.specs.Steps.{AreBack}
use Rattle.mlk_machine_run.specs.Frames.{claimed_in}
use Rattle.mlk_machine_run.proofs.AdvanceLemmas.{again}

-- binders with the same view
map_taken : (k : ℕ) (bs : List BinderIn) → map binder_of (take k bs) ≡ take k (map binder_of bs)
map_taken zero [] = refl
map_taken zero (b ∷ bs) = refl
map_taken (suc k) [] = refl
map_taken (suc k) (b ∷ bs) = ap (λ (z : List Binder). binder_of b ∷ z) (map_taken k bs)

same_binders : (bs cs : List BinderIn) → bindings_of bs ≡ bindings_of cs → map binder_of bs ≡ map binder_of cs
same_binders bs cs h = sym (reverse-reverse (map binder_of bs)) ∙ ap reverse h ∙ reverse-reverse (map binder_of cs)

same_taken : (bs cs : List BinderIn) (k : ℕ) → map binder_of bs ≡ map binder_of cs
    → bindings_of (take k bs) ≡ bindings_of (take k cs)
same_taken bs cs k h = ap reverse (map_taken k bs ∙ ap (take k) h ∙ sym (map_taken k cs))

same_pending : (bs cs : List BinderIn) (p : Pending) → map binder_of bs ≡ map binder_of cs → pending_of bs p ≡ pending_of cs p
same_pending bs cs (pending.Task t) h = refl
same_pending bs cs (pending.EndBlock back test) h =
    ap (λ (z : Bindings). task.EndBlock z back.next test) (same_taken bs cs back.binders h)
same_pending bs cs (pending.EndFrame frame back routine) h =
    ap (λ (z : Bindings). task.EndFrame (frame_of frame) z back.next routine) (same_taken bs cs back.binders h)

each_pending : (bs cs : List BinderIn) (ps : List Pending) → map binder_of bs ≡ map binder_of cs
    → map (pending_of bs) ps ≡ map (pending_of cs) ps
each_pending bs cs [] h = refl
each_pending bs cs (p ∷ ps) h =
    ap (λ (z : Task). z ∷ map (pending_of bs) ps) (same_pending bs cs p h)
    ∙ ap (λ (z : List Task). pending_of cs p ∷ z) (each_pending bs cs ps h)

same_tables : (bs cs : List BinderIn) (n : ℕ) → bindings_of bs ≡ bindings_of cs → HaveTables n bs → HaveTables n cs
same_tables bs cs n h k name = subst (λ (z : Bindings). (look z name).generation < n) h (k name)

same_within : (bs cs : List BinderIn) (c n : ℕ) (back : Back) → map binder_of bs ≡ map binder_of cs → IsWithin bs c n back
    → IsWithin cs c n back
same_within bs cs c n back h k = record {
  binders = k.binders;
  next = k.next;
  tables = same_tables (take back.binders bs) (take back.binders cs) back.next (same_taken bs cs back.binders h) k.tables;
}

same_nested : (bs cs : List BinderIn) (c n : ℕ) (ps : List Pending) → map binder_of bs ≡ map binder_of cs → AreNested bs c n ps
    → AreNested cs c n ps
same_nested bs cs c n [] h k = k
same_nested bs cs c n (pending.Task t ∷ ps) h k = same_nested bs cs c n ps h k
same_nested bs cs c n (pending.EndBlock back test ∷ ps) h k =
    (same_within bs cs c n back h k.0, same_nested bs cs back.binders back.next ps h k.1)
same_nested bs cs c n (pending.EndFrame frame back routine ∷ ps) h k =
    (same_within bs cs c n back h k.0, same_nested bs cs back.binders back.next ps h k.1)

mapped_length : (bs : List BinderIn) → length (map binder_of bs) ≡ length bs
mapped_length [] = refl
mapped_length (b ∷ bs) = ap suc (mapped_length bs)

same_length : (bs cs : List BinderIn) → map binder_of bs ≡ map binder_of cs → length bs ≡ length cs
same_length bs cs h = sym (mapped_length bs) ∙ ap length h ∙ mapped_length cs

-- A job after a failed step, with what was pending before the step.
pub restored : (j i : JobIn) (ts : List Task) (ps : List Pending) → job_of i ≡ doing ts (job_of j) → ps ≡ j.pending.items
    → record (job_of i) { tasks = tasks_of i.binders.items ps } ≡ job_of j
restored j i ts ps e p =
    ap (λ (z : Job). record z { tasks = tasks_of i.binders.items ps }) e
    ∙ ap (λ (z : List Task). record (job_of j) { tasks = z }) (
    ap reverse (each_pending i.binders.items j.binders.items ps
    (same_binders i.binders.items j.binders.items (ap (λ (z : Job). z.bindings) e)))
    ∙ ap (tasks_of j.binders.items) p
    )

pub sound_restored : (j i : JobIn) (ts : List Task) (ps : List Pending) → job_of i ≡ doing ts (job_of j)
    → ps ≡ j.pending.items → Sound j → Stands i.binders.items (length i.tables.items) ps
sound_restored j i ts ps e p h =
    let bindings : bindings_of j.binders.items ≡ bindings_of i.binders.items = sym (ap (λ (z : Job). z.bindings) e) in
    let same : map binder_of j.binders.items ≡ map binder_of i.binders.items =
    same_binders j.binders.items i.binders.items bindings in
    let next : length j.tables.items ≡ length i.tables.items = sym (ap (λ (z : Job). z.next) e) in
    record {
      tables = subst (λ (n : ℕ). HaveTables n i.binders.items) next
          (same_tables j.binders.items i.binders.items (length j.tables.items) bindings h.tables);
      nested = subst (λ (z : List Pending). AreNested i.binders.items (length i.binders.items) (length i.tables.items) (reverse z))
          (sym p)
          (subst (λ (n : ℕ). AreNested i.binders.items (length i.binders.items) n (reverse j.pending.items)) next
          (subst (λ (n : ℕ). AreNested i.binders.items n (length j.tables.items) (reverse j.pending.items))
          (same_length j.binders.items i.binders.items same)
          (same_nested j.binders.items i.binders.items (length j.binders.items) (length j.tables.items)
          (reverse j.pending.items) same h.nested)));
    }

-- what is restored at an end
pub back_of_block : (bs : List BinderIn) (n : ℕ) (ps : List Pending) (back : Back) (test : Bool)
    → Stands bs n (ps ++ pending.EndBlock back test ∷ []) → AreBack bs n ps back
back_of_block bs n ps back test h =
    let s = subst (λ (z : List Pending). AreNested bs (length bs) n z) (reverse-append ps (pending.EndBlock back test ∷ [])) h.nested in
    record { within = s.0; nested = s.1 }

pub back_of_frame : (bs : List BinderIn) (n : ℕ) (ps : List Pending) (frame : FrameIn) (back : Back) (routine : ℕ)
    → Stands bs n (ps ++ pending.EndFrame frame back routine ∷ []) → AreBack bs n ps back
back_of_frame bs n ps frame back routine h =
    let s = subst (λ (z : List Pending). AreNested bs (length bs) n z)
    (reverse-append ps (pending.EndFrame frame back routine ∷ [])) h.nested in
    record { within = s.0; nested = s.1 }

-- the first task is removed: it has the same effect on the job
first_claimed : (t : Task) (ts : List Task) → claimed_in (t ∷ ts) ≡ claimed_in (t ∷ [])
first_claimed (task.Claim names timed) ts = refl
first_claimed t ts = refl

pub free_before : (free : LockName → Bool) (b : Bool) (j : Job) (t : Task) (ts : List Task) → j.tasks ≡ t ∷ ts
    → list_all free (claimed_in j.tasks) ≡ b → list_all free (claimed_in (t ∷ [])) ≡ b
free_before free b j t ts e h =
    ap (list_all free) (sym (first_claimed t ts) ∙ ap claimed_in (sym e)) ∙ h

pub go_first : (routines : List RoutineTree) (free : LockName → Bool) (c : Choice) (j : Job) (t : Task) (ts : List Task)
    → j.tasks ≡ t ∷ ts → go routines free c j ≡ advance routines free c (doing ts j) (t ∷ ts)
go_first routines free c j t ts e = ap (advance routines free c j) e ∙ sym (again routines free c j ts t ts)
