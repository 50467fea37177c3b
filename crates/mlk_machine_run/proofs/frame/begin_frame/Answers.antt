use Rattle.std.proofs.Common.{◌≡◌, ◌∙◌, ℕ, suc, List, [], ◌∷◌, ◌++◌, length, take, reverse, ap, sym, subst, arith}
use Rattle.std.proofs.lemmas.List.{length-append}
use Rattle.mlk_syntax.specs.Views.{line_of}
use Rattle.std.specs.Prelude.{map}
use Rattle.mlk_machine_jobs.specs.declared.binding.Binder.{Binder}
use Rattle.mlk_machine_jobs.specs.declared.cell.CellTable.{CellTable}
use Rattle.mlk_machine_jobs.specs.declared.pending.Pending.{Pending}
use Rattle.mlk_machine_jobs.specs.Sound.{AreNested, Stands}
use Rattle.mlk_machine_jobs.specs.Views.{bindings_of, value_at}
use Rattle.mlk_machine_jobs.specs.JobViews.{frame_of, job_of, tasks_of}
use Rattle.mlk_machine_run.specs.Frames.{begun_tasks}
use Rattle.mlk_machine_run.proofs.FrameLemmas.{job_begun, sound_begun}
use Rattle.mlk_machine_run.proofs.frame.begin_frame.Goals as goal

pub returns-clause-job : goal.returns-clause-job
returns-clause-job c =
    let tables : c.push_reserved.new.self.items ≡ c.args.job.now.tables.items ++ c.args.table ∷ [] =
    c.push_reserved.ensures.items ∙ ap (λ (ts : List CellTable). ts ++ c.args.table ∷ []) c.in_ok-reserve-2.ensures.items in
    ap (λ (ts : List CellTable). record (job_of c.args.job.now) {
      routine = c.args.begin.routine;
      bindings = bindings_of c.add_binders.new.binders.items;
      next = length ts;
      cells = value_at ts;
      tasks = tasks_of c.add_binders.new.binders.items c.add_pending.new.pending.items;
    }) tables
    ∙ job_begun c.args.job.now (frame_of c.args.begin.frame) c.args.begin.routine c.len.result c.len-2.result
    (line_of c.args.begin.line.now) (map line_of c.args.begin.later.now) c.args.found.items c.add_binders.new.binders.items _ _
    c.add_pending.new.pending.items c.requires (omega (arith, c.len.ensures, c.args.job.now.binders.ok))
    (omega (arith, c.len-2.ensures, c.args.job.now.tables.ok))
    (c.add_binders.ensures ∙ ap (λ (bs : List Binder). bs ++ reverse c.args.found.items) c.in_ok-reserve.ensures.items)
    (omega (arith, length-append c.args.job.now.tables.items (c.args.table ∷ [])))
    (λ cs. c.add_pending.ensures.tasks cs
    ∙ ap (λ (ps : List Pending). begun_tasks (frame_of c.args.begin.frame) (bindings_of (take c.len.result cs)) c.len-2.result
    c.args.job.now.routine (line_of c.args.begin.line.now) (map line_of c.args.begin.later.now) ++ tasks_of cs ps)
    c.in_ok-reserve-3.ensures.items)

pub returns-clause-sound : goal.returns-clause-sound
returns-clause-sound c = λ have.
    let binders : c.add_binders.new.binders.items ≡ c.args.job.now.binders.items ++ reverse c.args.found.items =
    c.add_binders.ensures ∙ ap (λ (bs : List Binder). bs ++ reverse c.args.found.items) c.in_ok-reserve.ensures.items in
    let tables : length c.push_reserved.new.self.items ≡ suc (length c.args.job.now.tables.items) =
    ap length (c.push_reserved.ensures.items ∙ ap (λ (ts : List CellTable). ts ++ c.args.table ∷ []) c.in_ok-reserve-2.ensures.items)
    ∙ omega (arith, length-append c.args.job.now.tables.items (c.args.table ∷ [])) in
    subst (λ (bs : List Binder). Stands bs (length c.push_reserved.new.self.items) c.add_pending.new.pending.items) (sym binders)
    (subst (λ (n : ℕ). Stands (c.args.job.now.binders.items ++ reverse c.args.found.items) n c.add_pending.new.pending.items)
    (sym tables)
    (sound_begun c.args.job.now.binders.items (reverse c.args.found.items) (length c.args.job.now.tables.items)
    c.args.job.now.pending.items c.add_pending.new.pending.items (record { binders = c.len.result; next = c.len-2.result })
    c.requires have (omega (arith, c.len.ensures, c.args.job.now.binders.ok))
    (omega (arith, c.len-2.ensures, c.args.job.now.tables.ok))
    (λ cs k m within nested. c.add_pending.ensures.nested cs k m within
    (subst (λ (ps : List Pending). AreNested cs c.len.result c.len-2.result (reverse ps)) (sym c.in_ok-reserve-3.ensures.items)
    nested))))
