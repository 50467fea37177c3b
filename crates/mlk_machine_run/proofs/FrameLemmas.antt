-- Frames that begin: their lines, the binders of their formals, and the values of those.
use Rattle.std.proofs.Common.{◌≡◌, ◌∙◌, ◌<◌, ◌≤◌, ◌==◌, ℕ, zero, suc, Bool, true, false, List, [], ◌∷◌, ◌++◌, length, take, drop, map, reverse, Some, None, Ok, Err, refl, sym, ap, subst, arith, inl, inr, append_assoc, append-nil}
use Rattle.std.specs.Prelude.{Option, if◌then◌else◌, bytes_eq, slice_get}
use Rattle.std.proofs.lemmas.Bool.{cases_Bool}
use Rattle.std.proofs.lemmas.Bool.Decides.{nat_tests}
use Rattle.std.proofs.lemmas.List.{reverse-append, reverse-reverse, take-append-le, take_all, length-append, length-reverse}
use Rattle.mlk_machine_locks.specs.declared.refusal.Refusal.TheVariants.{NotEnabled}
use Rattle.mlk_machine_locks.specs.Counts.{Counts}
use Rattle.mlk_syntax.specs.ExprTrees.{ActualTree, Given, ByRef, Missing}
use Rattle.mlk_syntax.specs.declared.routine.Routine.{Routine}
use Rattle.mlk_syntax.specs.Views.{line_of, routine_of}
use Rattle.mlk_program.specs.declared.entry.EntryId.{EntryId}
use Rattle.mlk_program.proofs.EntryLines.{drop-map}
use Rattle.mlk_machine_jobs.specs.declared.choice.Choice.{Choice}
use Rattle.mlk_machine_jobs.specs.declared.binding.Binder.{Binder as BinderIn}
use Rattle.mlk_machine_jobs.specs.declared.cell.CellTable.{CellTable}
use Rattle.mlk_machine_jobs.specs.declared.job.Job.{Job as JobIn}
use Rattle.mlk_machine_jobs.specs.declared.pending.Back.{Back}
use Rattle.mlk_machine_jobs.specs.declared.pending.Frame.{Frame as FrameIn}
use Rattle.mlk_machine_jobs.specs.declared.pending.Pending.{Pending}
use Rattle.mlk_machine_jobs.specs.declared.pending.Pending.TheVariants as pending
use Rattle.mlk_machine_jobs.specs.declared.task.Task.{Task as TaskIn}
use Rattle.mlk_machine_jobs.specs.Bindings.{Only, Cell, Cells, no_values, Binder, Fresh, ByReference, Bindings, put_value, look}
use Rattle.mlk_machine_jobs.specs.Tasks.{Task, Job, LineTree, Frame, RunLines, RunCommands, EndFrame}
use Rattle.mlk_numbers.specs.Operators.{truth_of_text}
use Rattle.mlk_machine_jobs.specs.Choices.{Stepped, last_values, dropped, without_choice, with_truth, with_last, truth_or_asked}
use Rattle.mlk_machine_jobs.specs.Calling.{next_actual, later_actuals, binder, binders, with_actuals, count_given, formals_in, commands_in, lines_after, entered}
use Rattle.mlk_machine_jobs.specs.Runs.{blank, present, by_value}
use Rattle.mlk_machine_jobs.specs.Views.{binder_of, bindings_of, in_table, value_in, value_at}
use Rattle.mlk_machine_jobs.specs.JobViews.{frame_of, job_of, tasks_of}
use Rattle.mlk_machine_jobs.specs.TaskViews.{task_of}
use Rattle.mlk_machine_jobs.specs.Sound.{HaveTables, IsWithin, AreNested, Stands, Sound}
use Rattle.mlk_machine_jobs.proofs.BinderLemmas.{newest}
use Rattle.mlk_machine_jobs.proofs.CellLemmas.{one_function, suc_suc, zero_suc, suc_zero}
use Rattle.mlk_machine_jobs.proofs.PendingLemmas.{tasks_after}
use Rattle.mlk_machine_jobs.proofs.SoundLemmas.{same_nested}
use Rattle.mlk_machine_steps.proofs.ScopeLemmas.{lines_again, same_tasks}
use Rattle.mlk_machine_steps.proofs.StepLemmas.{the_last}
use Rattle.mlk_machine_run.specs.Frames.{Held, with_held, filled, filled_first, begun_tasks, frame_begun}

-- the lines after an entry
got : (rs : List Routine) (k : ℕ) (r : Routine) → slice_get rs k ≡ Some r → slice_get (map routine_of rs) k ≡ Some (routine_of r)
got [] k r h = absurd (cc)
got (s ∷ rs) zero r h = let e : Some s ≡ Some r = h in let i : s ≡ r = cc in ap (λ (z : Routine). Some (routine_of z)) i
got (s ∷ rs) (suc k) r h = got rs k r h

got_none : (rs : List Routine) (k : ℕ) → slice_get rs k ≡ None → slice_get (map routine_of rs) k ≡ None
got_none [] k h = refl
got_none (s ∷ rs) zero h = absurd (cc)
got_none (s ∷ rs) (suc k) h = got_none rs k h

pub lines_some : (rs : List Routine) (e : EntryId) (r : Routine) → slice_get rs e.routine ≡ Some r
    → lines_after (map routine_of rs) e ≡ map line_of (drop e.line r.lines.items)
lines_some rs e r h = rw (got rs e.routine r h) (ap (drop e.line) (lines_again r.lines.items) ∙ drop-map e.line r.lines.items)

pub lines_none : (rs : List Routine) (e : EntryId) → slice_get rs e.routine ≡ None → lines_after (map routine_of rs) e ≡ []
lines_none rs e h = rw (got_none rs e.routine h) refl

-- the binders of formals, which become the newest
pub bindings_added : (bs found : List BinderIn) → bindings_of (bs ++ reverse found) ≡ map binder_of found ++ bindings_of bs
bindings_added bs [] = ap bindings_of (append-nil bs)
bindings_added bs (b ∷ found) =
    ap bindings_of (ap (λ (z : List BinderIn). bs ++ z) (reverse-append (b ∷ []) found) ∙ sym (append_assoc bs (reverse found) (b ∷ [])))
    ∙ newest (bs ++ reverse found) b
    ∙ ap (λ (z : Bindings). binder_of b ∷ z) (bindings_added bs found)

fresh_within : (n : ℕ) (f name : List ℕ) (bs : Bindings) → (look bs name).generation < suc n
    → (look (Fresh n (Only f) ∷ bs) name).generation < suc n
fresh_within n f name bs h = elim (cases_Bool (bytes_eq f name)) [
  | inl e ↦ rw e (omega arith)
  | inr e ↦ rw e h
]

shared_within : (n : ℕ) (f name : List ℕ) (cell : Cell) (bs : Bindings) → cell.generation < n → (look bs name).generation < suc n
    → (look (ByReference f cell ∷ bs) name).generation < suc n
shared_within n f name cell bs l h = elim (cases_Bool (bytes_eq f name)) [
  | inl e ↦ rw e (omega (arith, l))
  | inr e ↦ rw e h
]

binder_within : (caller : Bindings) (n : ℕ) (f name : List ℕ) (a : ActualTree) (bs : Bindings)
    → ((name : List ℕ) → (look caller name).generation < n) → (look bs name).generation < suc n
    → (look (binder caller n f a ∷ bs) name).generation < suc n
binder_within caller n f name (Given t) bs h k = fresh_within n f name bs k
binder_within caller n f name (ByRef column other) bs h k = shared_within n f name (look caller other) bs (h other) k
binder_within caller n f name Missing bs h k = fresh_within n f name bs k

formals_within : (caller : Bindings) (n : ℕ) (fs : List (List ℕ)) (given : List ActualTree) (name : List ℕ)
    → ((name : List ℕ) → (look caller name).generation < n)
    → (look (binders caller n fs given ++ caller) name).generation < suc n
formals_within caller n [] given name h = omega (arith, h name)
formals_within caller n (f ∷ fs) given name h =
    binder_within caller n f name (next_actual given) _ h (formals_within caller n fs (later_actuals given) name h)

pub formals_have_tables : (bs found : List BinderIn) (n : ℕ) (fs : List (List ℕ)) (given : List ActualTree) → HaveTables n bs
    → map binder_of found ≡ binders (bindings_of bs) n fs given → HaveTables (suc n) (bs ++ reverse found)
formals_have_tables bs found n fs given h e name =
    subst (λ (z : Bindings). (look z name).generation < suc n)
    (sym (bindings_added bs found ∙ ap (λ (z : Bindings). z ++ bindings_of bs) e))
    (formals_within (bindings_of bs) n fs given name h)

-- The values of formals: all are of one generation.
abbrev own_cells : ℕ → Held → Cells → Cells
own_cells g held cells c = if g == c.generation then held c.name else cells c

put_own : (g : ℕ) (f v : List ℕ) (held : Held) (cells : Cells) (c : Cell)
    → put_value (record { generation = g; name = f }) v (own_cells g held cells) c ≡ own_cells g (with_held f v held) cells c
put_own g f v held cells c = elim (cases_Bool (g == c.generation)) [
  | inl e ↦ rw e refl
  | inr e ↦ rw e refl
]

pub filled_own : (g : ℕ) (fs : List (List ℕ)) (given : List ActualTree) (vs : List (List ℕ)) (held : Held) (cells : Cells)
    → with_actuals g fs given vs (own_cells g held cells) ≡ own_cells g (filled fs given vs held) cells
filled_own g [] given vs held cells = refl
filled_own g (f ∷ fs) [] vs held cells = refl
filled_own g (f ∷ fs) (Given t ∷ given) [] held cells = refl
filled_own g (f ∷ fs) (Given t ∷ given) (v ∷ vs) held cells =
    ap (with_actuals g fs given vs) (one_function _ _ (put_own g f v held cells))
    ∙ filled_own g fs given vs (with_held f v held) cells
filled_own g (f ∷ fs) (ByRef column name ∷ given) vs held cells = filled_own g fs given vs held cells
filled_own g (f ∷ fs) (Missing ∷ given) vs held cells = filled_own g fs given vs held cells

abbrev nothing : Held
nothing n = None

last_in : (ts : List CellTable) (t : CellTable) (k : ℕ) (n : List ℕ)
    → value_in n (slice_get (ts ++ t ∷ []) k)
    ≡ (if length ts == k then in_table t n else value_in n (slice_get ts k))
last_in [] t zero n = refl
last_in [] t (suc k) n = rw (zero_suc k) refl
last_in (x ∷ ts) t zero n = rw (suc_zero (length ts)) refl
last_in (x ∷ ts) t (suc k) n = rw (suc_suc (length ts) k) (last_in ts t k n)

past_in : (ts : List CellTable) (k : ℕ) (n : List ℕ) → (length ts == k) ≡ true → value_in n (slice_get ts k) ≡ None
past_in [] k n h = refl
past_in (x ∷ ts) zero n h = absurd (grind (arith, nat_tests))
past_in (x ∷ ts) (suc k) n h = past_in ts k n (sym (suc_suc (length ts) k) ∙ h)

no_own : (ts : List CellTable) (c : Cell) → value_at ts c ≡ own_cells (length ts) nothing (value_at ts) c
no_own ts c = elim (cases_Bool (length ts == c.generation)) [
  | inl e ↦ rw e (past_in ts c.generation c.name e)
  | inr e ↦ rw e refl
]

pub table_added : (ts : List CellTable) (t : CellTable) → value_at (ts ++ t ∷ []) ≡ own_cells (length ts) (in_table t) (value_at ts)
table_added ts t = one_function _ _ (λ c. last_in ts t c.generation c.name)

pub table_filled : (ts : List CellTable) (t : CellTable) (fs : List (List ℕ)) (given : List ActualTree) (vs : List (List ℕ)) (held : Held)
    → ((n : List ℕ) → held n ≡ None) → in_table t ≡ filled fs given vs held
    → value_at (ts ++ t ∷ []) ≡ with_actuals (length ts) fs given vs (value_at ts)
table_filled ts t fs given vs held none e =
    let empty : held ≡ nothing = (λ i n. none n i) in
    table_added ts t
    ∙ ap (λ (h : Held). own_cells (length ts) h (value_at ts)) (e ∙ ap (filled fs given vs) empty)
    ∙ sym (filled_own (length ts) fs given vs nothing (value_at ts))
    ∙ ap (with_actuals (length ts) fs given vs) (sym (one_function _ _ (no_own ts)))

-- A frame that begins: what was bound and pending before stays.
prefix : (bs found : List BinderIn) (k : ℕ) → k ≤ length bs → take k bs ≡ take k (bs ++ found)
prefix bs found k l = sym (take-append-le k bs found l)

all_before : (bs found : List BinderIn) → take (length bs) (bs ++ found) ≡ bs
all_before bs found = take-append-le (length bs) bs found (omega arith) ∙ take_all (length bs) bs (omega arith)

tasks_begun : (frame : Frame) (bs found : List BinderIn) (n r b m : ℕ) (l : LineTree) (lines : List LineTree) (ps : List Pending)
    → Stands bs n ps → b ≡ length bs → m ≡ n
    → begun_tasks frame (bindings_of (take b (bs ++ found))) m r l lines ++ tasks_of (bs ++ found) ps
    ≡ begun_tasks frame (bindings_of bs) n r l lines ++ tasks_of bs ps
tasks_begun frame bs found n r b m l lines ps h e d =
    ap (λ (k : ℕ). begun_tasks frame (bindings_of (take k (bs ++ found))) m r l lines ++ tasks_of (bs ++ found) ps) e
    ∙ ap (λ (k : ℕ). begun_tasks frame (bindings_of (take (length bs) (bs ++ found))) k r l lines ++ tasks_of (bs ++ found) ps) d
    ∙ ap (λ (z : List BinderIn). begun_tasks frame (bindings_of z) n r l lines ++ tasks_of (bs ++ found) ps) (all_before bs found)
    ∙ ap (λ (z : List Task). begun_tasks frame (bindings_of bs) n r l lines ++ z)
    (sym (same_tasks bs (bs ++ found) (length bs) n ps (prefix bs found) h.nested))

pub job_begun : (j : JobIn) (frame : Frame) (r b m : ℕ) (l : LineTree) (lines : List LineTree) (found bs : List BinderIn) (n : ℕ)
    (cells : Cells) (ps : List Pending) → Sound j → b ≡ length j.binders.items → m ≡ length j.tables.items
    → bs ≡ j.binders.items ++ reverse found → n ≡ suc (length j.tables.items)
    → ((cs : List BinderIn) → tasks_of cs ps
    ≡ begun_tasks frame (bindings_of (take b cs)) m j.routine l lines ++ tasks_of cs j.pending.items)
    → record (job_of j) { routine = r; bindings = bindings_of bs; next = n; cells = cells; tasks = tasks_of bs ps }
    ≡ frame_begun frame r l lines (map binder_of found) cells (job_of j)
job_begun j frame r b m l lines found bs n cells ps h e i is d t =
    let all : List BinderIn = j.binders.items ++ reverse found in
    ap (λ (z : List BinderIn). record (job_of j) {
      routine = r;
      bindings = bindings_of z;
      next = n;
      cells = cells;
      tasks = tasks_of z ps;
    }) is
    ∙ ap (λ (z : Bindings). record (job_of j) {
      routine = r;
      bindings = z;
      next = n;
      cells = cells;
      tasks = tasks_of all ps;
    }) (bindings_added j.binders.items found)
    ∙ ap (λ (z : ℕ). record (job_of j) {
      routine = r;
      bindings = map binder_of found ++ bindings_of j.binders.items;
      next = z;
      cells = cells;
      tasks = tasks_of all ps;
    }) d
    ∙ ap (λ (z : List Task). record (job_of j) {
      routine = r;
      bindings = map binder_of found ++ bindings_of j.binders.items;
      next = suc (length j.tables.items);
      cells = cells;
      tasks = z;
    }) (t all ∙ tasks_begun frame j.binders.items (reverse found) (length j.tables.items) j.routine b m l lines j.pending.items h e i)

within_begun : (bs found : List BinderIn) (n : ℕ) (back : Back) → HaveTables n bs → back.binders ≡ length bs → back.next ≡ n
    → IsWithin (bs ++ found) (length (bs ++ found)) (suc n) back
within_begun bs found n back h e d = record {
  binders = omega (arith, e, length-append bs found);
  next = omega (arith, d);
  tables = subst (λ (k : ℕ). HaveTables back.next (take k (bs ++ found))) (sym e)
      (subst (λ (k : ℕ). HaveTables k (take (length bs) (bs ++ found))) (sym d)
      (subst (λ (z : List BinderIn). HaveTables n z) (sym (all_before bs found)) h));
}

pub sound_begun : (bs found : List BinderIn) (n : ℕ) (before ps : List Pending) (back : Back) → Stands bs n before
    → HaveTables (suc n) (bs ++ found) → back.binders ≡ length bs → back.next ≡ n
    → ((cs : List BinderIn) (c m : ℕ) → IsWithin cs c m back → AreNested cs back.binders back.next (reverse before)
    → AreNested cs c m (reverse ps))
    → Stands (bs ++ found) (suc n) ps
sound_begun bs found n before ps back h k e d nest = record {
  tables = k;
  nested = nest (bs ++ found) (length (bs ++ found)) (suc n) (within_begun bs found n back h.tables e d)
      (subst (λ (b : ℕ). AreNested (bs ++ found) b back.next (reverse before)) (sym e)
      (subst (λ (m : ℕ). AreNested (bs ++ found) (length bs) m (reverse before)) (sym d)
      (same_nested bs (bs ++ found) (length bs) n (reverse before) (prefix bs found) h.nested)));
}

-- what is pending of a frame
pub begun_pending : (cs : List BinderIn) (ps : List Pending) (frame : FrameIn) (back : Back) (own : ℕ) (lines commands : TaskIn)
    → tasks_of cs (((ps ++ pending.EndFrame frame back own ∷ []) ++ pending.Task lines ∷ []) ++ pending.Task commands ∷ [])
    ≡ task_of commands ∷ task_of lines ∷ EndFrame (frame_of frame) (bindings_of (take back.binders cs)) back.next own ∷ tasks_of cs ps
begun_pending cs ps frame back own lines commands =
    tasks_after cs ((ps ++ pending.EndFrame frame back own ∷ []) ++ pending.Task lines ∷ []) (pending.Task commands)
    ∙ ap (λ (z : List Task). task_of commands ∷ z)
    (tasks_after cs (ps ++ pending.EndFrame frame back own ∷ []) (pending.Task lines)
    ∙ ap (λ (z : List Task). task_of lines ∷ z) (tasks_after cs ps (pending.EndFrame frame back own)))

pub begun_nested : (cs : List BinderIn) (c n : ℕ) (ps : List Pending) (frame : FrameIn) (back : Back) (own : ℕ)
    (lines commands : TaskIn) → IsWithin cs c n back → AreNested cs back.binders back.next (reverse ps)
    → AreNested cs c n
    (reverse (((ps ++ pending.EndFrame frame back own ∷ []) ++ pending.Task lines ∷ []) ++ pending.Task commands ∷ []))
begun_nested cs c n ps frame back own lines commands w h =
    subst (λ (z : List Pending). AreNested cs c n z)
    (sym (
    reverse-append ((ps ++ pending.EndFrame frame back own ∷ []) ++ pending.Task lines ∷ []) (pending.Task commands ∷ [])
    ∙ ap (λ (z : List Pending). pending.Task commands ∷ z)
    (reverse-append (ps ++ pending.EndFrame frame back own ∷ []) (pending.Task lines ∷ [])
    ∙ ap (λ (z : List Pending). pending.Task lines ∷ z) (reverse-append ps (pending.EndFrame frame back own ∷ [])))
    )) (w, h)

-- a call by the truth of the last value
pub no_condition : (c : Choice) (vs : List (List ℕ)) (f : Bool → Stepped) → None ≡ slice_get vs 0
    → with_last vs (λ v. truth_or_asked c (truth_of_text v) f) ≡ Err NotEnabled
no_condition c [] f h = refl
no_condition c (v ∷ vs) f h = absurd (cc)

pub known_condition : (c : Choice) (vs : List (List ℕ)) (v : List ℕ) (b : Bool) (f : Bool → Stepped) → Some v ≡ slice_get vs 0
    → Some b ≡ truth_of_text v → with_last vs (λ v. truth_or_asked c (truth_of_text v) f) ≡ without_choice c (f b)
known_condition c vs v b f h k =
    the_last vs v (λ v. truth_or_asked c (truth_of_text v) f) h
    ∙ ap (λ (o : Option Bool). truth_or_asked c o f) (sym k)

pub asked_condition : (c : Choice) (vs : List (List ℕ)) (v : List ℕ) (f : Bool → Stepped) → Some v ≡ slice_get vs 0
    → None ≡ truth_of_text v → with_last vs (λ v. truth_or_asked c (truth_of_text v) f) ≡ with_truth c f
asked_condition c vs v f h k =
    the_last vs v (λ v. truth_or_asked c (truth_of_text v) f) h
    ∙ ap (λ (o : Option Bool). truth_or_asked c o f) (sym k)

-- a call at a line
pub entered_at : (frame : Frame) (r : ℕ) (given : List ActualTree) (l : LineTree) (lines : List LineTree) (ts : List Task) (j : Job)
    → entered frame r given (l ∷ lines) ts j ≡ Ok (record j {
      routine = r;
      bindings = binders j.bindings j.next (formals_in l.0) given ++ j.bindings;
      next = suc j.next;
      cells = with_actuals j.next (formals_in l.0) given (last_values (count_given given) j) j.cells;
      values = drop (count_given given) j.values;
      tasks = RunCommands (commands_in l.0) l ∷ RunLines lines ∷ EndFrame frame j.bindings j.next j.routine ∷ ts;
    })
entered_at frame r given (head, block) lines ts j = refl

-- a frame that begins by a call, after its values were used up
pub bound_job : (j : Job) (frame : Frame) (r : ℕ) (l : LineTree) (lines : List LineTree) (found : List Binder) (cells : Cells)
    (count skipped : ℕ) (given : List ActualTree) → found ≡ binders j.bindings j.next (formals_in l.0) given
    → cells ≡ with_actuals j.next (formals_in l.0) given (last_values (count_given given) (dropped skipped j)) j.cells
    → count ≡ count_given given
    → Ok (dropped count (dropped skipped (frame_begun frame r l lines found cells j)))
    ≡ entered frame r given (l ∷ lines) j.tasks (dropped skipped j)
bound_job j frame r l lines found cells count skipped given e d n =
    ap (λ (z : List Binder). Ok (dropped count (dropped skipped (frame_begun frame r l lines z cells j)))) e
    ∙ ap (λ (z : Cells). Ok (dropped count (dropped skipped (frame_begun frame r l lines
    (binders j.bindings j.next (formals_in l.0) given) z j)))) d
    ∙ ap (λ (k : ℕ). Ok (dropped k (dropped skipped (frame_begun frame r l lines
    (binders j.bindings j.next (formals_in l.0) given)
    (with_actuals j.next (formals_in l.0) given (last_values (count_given given) (dropped skipped j)) j.cells) j)))) n
    ∙ sym (entered_at frame r given l lines j.tasks (dropped skipped j))

-- the first frame of a job
formals_fresh : (caller : Bindings) (g : ℕ) (fs vs : List (List ℕ)) → binders caller g fs [] ≡ binders caller g fs (by_value (map Some vs))
formals_fresh caller g [] vs = refl
formals_fresh caller g (f ∷ fs) [] = refl
formals_fresh caller g (f ∷ fs) (v ∷ vs) = ap (λ (z : List Binder). Fresh g (Only f) ∷ z) (formals_fresh caller g fs vs)

all_given : (vs : List (List ℕ)) → count_given (by_value (map Some vs)) ≡ length vs
all_given [] = refl
all_given (v ∷ vs) = ap suc (all_given vs)

first_filled : (fs vs : List (List ℕ)) (held : Held) → filled_first fs vs held ≡ filled fs (by_value (map Some vs)) vs held
first_filled [] vs held = refl
first_filled (f ∷ fs) [] held = refl
first_filled (f ∷ fs) (v ∷ vs) held = first_filled fs vs (with_held f v held)

none_left : (n : ℕ) (vs : List (List ℕ)) → length vs ≤ n → drop n vs ≡ []
none_left zero [] l = refl
none_left zero (v ∷ vs) l = absurd (omega (arith, l))
none_left (suc n) [] l = refl
none_left (suc n) (v ∷ vs) l = none_left n vs (omega (arith, l))

-- values that all exist
all_there : (vs : List (List ℕ)) → present (map Some vs) ≡ vs
all_there [] = refl
all_there (v ∷ vs) = ap (λ (z : List (List ℕ)). v ∷ z) (all_there vs)

pub values_used : (vs : List (List ℕ)) → drop (count_given (by_value (map Some vs))) (reverse (present (map Some vs))) ≡ []
values_used vs =
    ap (λ (z : List (List ℕ)). drop (count_given (by_value (map Some vs))) (reverse z)) (all_there vs)
    ∙ none_left (count_given (by_value (map Some vs))) (reverse vs) (omega (arith, length-reverse vs, all_given vs))

pub values_given : (vs : List (List ℕ))
    → reverse (take (count_given (by_value (map Some vs))) (reverse (present (map Some vs)))) ≡ vs
values_given vs =
    ap (λ (z : List (List ℕ)). reverse (take (count_given (by_value (map Some vs))) (reverse z))) (all_there vs)
    ∙ ap reverse (take_all (count_given (by_value (map Some vs))) (reverse vs) (omega (arith, length-reverse vs, all_given vs)))
    ∙ reverse-reverse vs

pub first_begun : (k : ℕ) (test : Bool) (frame : Frame) (r : ℕ) (l : LineTree) (lines : List LineTree) (found : List Binder)
    (cells : Cells) (j : Job) (vs : List (List ℕ)) → j ≡ blank k test [] → found ≡ binders [] 1 (formals_in l.0) []
    → cells ≡ with_actuals 1 (formals_in l.0) (by_value (map Some vs)) vs no_values
    → Ok (frame_begun frame r l lines found cells j)
    ≡ entered frame r (by_value (map Some vs)) (l ∷ lines) [] (blank k test (map Some vs))
first_begun k test frame r l lines found cells j vs h e d =
    let fs : List (List ℕ) = formals_in l.0 in
    let given : List ActualTree = by_value (map Some vs) in
    ap (λ (z : Job). Ok (frame_begun frame r l lines found cells z)) h
    ∙ ap (λ (z : List Binder). Ok (frame_begun frame r l lines z cells (blank k test []))) (e ∙ formals_fresh [] 1 fs vs)
    ∙ ap (λ (z : Cells). Ok (frame_begun frame r l lines (binders [] 1 fs given) z (blank k test [])))
    (d ∙ ap (λ (z : List (List ℕ)). with_actuals 1 fs given z no_values) (sym (values_given vs)))
    ∙ ap (λ (z : List (List ℕ)). Ok (record (frame_begun frame r l lines (binders [] 1 fs given)
    (with_actuals 1 fs given (reverse (take (count_given given) (reverse (present (map Some vs))))) no_values) (blank k test [])) {
      values = z;
    })) (sym (values_used vs))
    ∙ sym (entered_at frame r given l lines [] (blank k test (map Some vs)))

pub first_table : (ts : List CellTable) (t : CellTable) (fs vs : List (List ℕ)) (held : Held) → length ts ≡ 1 → value_at ts ≡ no_values
    → ((n : List ℕ) → held n ≡ None) → in_table t ≡ filled_first fs vs held
    → value_at (ts ++ t ∷ []) ≡ with_actuals 1 fs (by_value (map Some vs)) vs no_values
first_table ts t fs vs held n c none e =
    table_filled ts t fs (by_value (map Some vs)) vs held none (e ∙ first_filled fs vs held)
    ∙ ap (λ (k : ℕ). with_actuals k fs (by_value (map Some vs)) vs (value_at ts)) n
    ∙ ap (λ (z : Cells). with_actuals 1 fs (by_value (map Some vs)) vs z) c

-- a job before its first frame
one_empty : (t : CellTable) → ((n : List ℕ) → in_table t n ≡ None) → (k : ℕ) (n : List ℕ)
    → value_in n (slice_get (t ∷ []) k) ≡ None
one_empty t h zero n = h n
one_empty t h (suc k) n = refl

pub blank_job : (k : ℕ) (test : Bool) (bs : List BinderIn) (ts : List CellTable) (t : CellTable) (vs : List (List ℕ)) (held : Counts)
    (ps : List Pending) → bs ≡ [] → ts ≡ t ∷ [] → ((n : List ℕ) → in_table t n ≡ None) → vs ≡ [] → held ≡ [] → ps ≡ []
    → record {
      number = k;
      test = test;
      routine = 0;
      bindings = bindings_of bs;
      next = length ts;
      cells = value_at ts;
      values = vs;
      held = held;
      tasks = tasks_of bs ps;
      stopped = false;
    } ≡ blank k test []
blank_job k test bs ts t vs held ps b e h v c p =
    rw (b, e, v, c, p) (ap (λ (z : Cells). record (blank k test []) { cells = z })
    (one_function (value_at (t ∷ [])) no_values (λ d. one_empty t h d.generation d.name)))
