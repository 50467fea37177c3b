-- Copies of jobs.
use Rattle.std.proofs.Common.{◌≡◌, ◌∙◌, ℕ, zero, suc, List, [], ◌∷◌, length, map, Option, Some, None, refl, sym, ap, subst}
use Rattle.std.specs.Prelude.{reverse, slice_get, take}
use Rattle.std.proofs.lemmas.List.{length-map}
use Rattle.indexmap.proofs.ReorderLemmas.{map-reverse}
use Rattle.mlk_machine_jobs.specs.declared.binding.Binder.{Binder}
use Rattle.mlk_machine_jobs.specs.declared.cell.CellTable.{CellTable}
use Rattle.mlk_machine_jobs.specs.declared.job.Job.{Job as JobIn}
use Rattle.mlk_machine_jobs.specs.declared.pending.Pending.{Pending}
use Rattle.mlk_machine_jobs.specs.declared.pending.Pending.TheVariants as pending
use Rattle.mlk_machine_jobs.specs.Tasks as task
use Rattle.mlk_machine_jobs.specs.Tasks.{Task}
use Rattle.mlk_machine_jobs.specs.Views.{bindings_of, in_table, value_in, value_at}
use Rattle.mlk_machine_jobs.specs.JobViews.{frame_of, pending_of, tasks_of, job_of}
use Rattle.mlk_machine_jobs.specs.Sound.{IsWithin, AreNested, Stands, Sound}
use Rattle.mlk_machine.specs.Copies.{Shown, ToDo, BlockEnd, FrameEnd, shown_of, values_in}

-- what the definition sees of pending items depends on what is shown of them
abbrev by_shown : List Binder → Shown → Task
by_shown binders (ToDo t) = t
by_shown binders (BlockEnd back test) = task.EndBlock (bindings_of (take back.binders binders)) back.next test
by_shown binders (FrameEnd frame back routine) =
    task.EndFrame (frame_of frame) (bindings_of (take back.binders binders)) back.next routine

is_shown : (bs : List Binder) (p : Pending) → pending_of bs p ≡ by_shown bs (shown_of p)
is_shown bs (pending.Task t) = refl
is_shown bs (pending.EndBlock back test) = refl
is_shown bs (pending.EndFrame frame back routine) = refl

all_shown : (bs : List Binder) (ps : List Pending) → map (pending_of bs) ps ≡ map (by_shown bs) (map shown_of ps)
all_shown bs [] = refl
all_shown bs (p ∷ ps) =
    ap (λ (t : Task). t ∷ map (pending_of bs) ps) (is_shown bs p)
    ∙ ap (λ (ts : List Task). by_shown bs (shown_of p) ∷ ts) (all_shown bs ps)

same_tasks : (bs : List Binder) (ps qs : List Pending) → map shown_of qs ≡ map shown_of ps → tasks_of bs qs ≡ tasks_of bs ps
same_tasks bs ps qs h = ap reverse (all_shown bs qs ∙ ap (map (by_shown bs)) h ∙ sym (all_shown bs ps))

-- and so do the ends
abbrev NestedBy : List Binder → ℕ → ℕ → List Shown → Type 0
NestedBy bs count n [] = Unit {0}
NestedBy bs count n (ToDo t ∷ ss) = NestedBy bs count n ss
NestedBy bs count n (BlockEnd back test ∷ ss) = IsWithin bs count n back × NestedBy bs back.binders back.next ss
NestedBy bs count n (FrameEnd frame back routine ∷ ss) = IsWithin bs count n back × NestedBy bs back.binders back.next ss

nested_to : (bs : List Binder) (count n : ℕ) (ps : List Pending) → AreNested bs count n ps
    → NestedBy bs count n (map shown_of ps)
nested_to bs count n [] h = h
nested_to bs count n (pending.Task t ∷ ps) h = nested_to bs count n ps h
nested_to bs count n (pending.EndBlock back test ∷ ps) h = (h.0, nested_to bs back.binders back.next ps h.1)
nested_to bs count n (pending.EndFrame frame back routine ∷ ps) h = (h.0, nested_to bs back.binders back.next ps h.1)

nested_from : (bs : List Binder) (count n : ℕ) (ps : List Pending) → NestedBy bs count n (map shown_of ps)
    → AreNested bs count n ps
nested_from bs count n [] h = h
nested_from bs count n (pending.Task t ∷ ps) h = nested_from bs count n ps h
nested_from bs count n (pending.EndBlock back test ∷ ps) h = (h.0, nested_from bs back.binders back.next ps h.1)
nested_from bs count n (pending.EndFrame frame back routine ∷ ps) h = (h.0, nested_from bs back.binders back.next ps h.1)

same_nested : (bs : List Binder) (count n : ℕ) (ps qs : List Pending) → map shown_of qs ≡ map shown_of ps
    → AreNested bs count n (reverse ps) → AreNested bs count n (reverse qs)
same_nested bs count n ps qs h k =
    nested_from bs count n (reverse qs)
    (subst (NestedBy bs count n)
    (map-reverse shown_of ps ∙ ap reverse (sym h) ∙ sym (map-reverse shown_of qs)) (nested_to bs count n (reverse ps) k))

-- tables
pub same_table : (t u : CellTable) → ((n : List ℕ) → in_table u n ≡ in_table t n) → values_in u ≡ values_in t
same_table t u h i n = h n i

abbrev value_by : List ℕ → Option (List ℕ → Option (List ℕ)) → Option (List ℕ)
value_by n None = None
value_by n (Some f) = f n

at_shown : (ts : List CellTable) (g : ℕ) (n : List ℕ) → value_in n (slice_get ts g) ≡ value_by n (slice_get (map values_in ts) g)
at_shown [] zero n = refl
at_shown [] (suc g) n = refl
at_shown (t ∷ ts) zero n = refl
at_shown (t ∷ ts) (suc g) n = at_shown ts g n

same_values : (ts us : List CellTable) → map values_in us ≡ map values_in ts → value_at us ≡ value_at ts
same_values ts us h i c =
    (at_shown us c.generation c.name
    ∙ ap (λ (l : List (List ℕ → Option (List ℕ))). value_by c.name (slice_get l c.generation)) h
    ∙ sym (at_shown ts c.generation c.name)) i

same_count : (ts us : List CellTable) → map values_in us ≡ map values_in ts → length us ≡ length ts
same_count ts us h = sym (length-map us values_in) ∙ ap length h ∙ length-map ts values_in

-- A copy is the same job, and just as sound.
pub same_job : (j k : JobIn) → k.number ≡ j.number → k.test ≡ j.test → k.routine ≡ j.routine
    → k.binders.items ≡ j.binders.items → map values_in k.tables.items ≡ map values_in j.tables.items → k.values ≡ j.values
    → k.held ≡ j.held → map shown_of k.pending.items ≡ map shown_of j.pending.items → k.stopped ≡ j.stopped
    → job_of k ≡ job_of j
same_job j k number test routine binders tables values held pending stopped =
    let cells = same_values j.tables.items k.tables.items tables in
    let count = same_count j.tables.items k.tables.items tables in
    let tasks : tasks_of k.binders.items k.pending.items ≡ tasks_of j.binders.items j.pending.items =
    ap (λ (bs : List Binder). tasks_of bs k.pending.items) binders
    ∙ same_tasks j.binders.items j.pending.items k.pending.items pending in
    λ i. record {
      number = number i;
      test = test i;
      routine = routine i;
      bindings = bindings_of (binders i);
      next = count i;
      cells = cells i;
      values = values i;
      held = held i;
      tasks = tasks i;
      stopped = stopped i;
    }

pub same_sound : (j k : JobIn) → k.binders.items ≡ j.binders.items
    → map values_in k.tables.items ≡ map values_in j.tables.items
    → map shown_of k.pending.items ≡ map shown_of j.pending.items → Sound j → Sound k
same_sound j k binders tables pending h =
    let count = same_count j.tables.items k.tables.items tables in
    subst (λ (bs : List Binder). Stands bs (length k.tables.items) k.pending.items) (sym binders)
    (subst (λ (n : ℕ). Stands j.binders.items n k.pending.items) (sym count) (record {
      tables = h.tables;
      nested = same_nested j.binders.items (length j.binders.items) (length j.tables.items) j.pending.items k.pending.items
          pending h.nested;
    }))
