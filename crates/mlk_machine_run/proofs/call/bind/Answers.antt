use Rattle.std.proofs.Common.{◌≡◌, ◌∙◌, ℕ, List, [], ◌∷◌, ◌++◌, length, take, drop, reverse, Ok, ap, sym, arith}
use Rattle.std.specs.Prelude.{map}
use Rattle.mlk_syntax.specs.ExprTrees.{actual_trees}
use Rattle.mlk_syntax.specs.Views.{line_of}
use Rattle.mlk_machine_jobs.specs.declared.binding.Binder.{Binder}
use Rattle.mlk_machine_jobs.specs.Tasks.{Job}
use Rattle.mlk_machine_jobs.specs.Choices.{dropped}
use Rattle.mlk_machine_jobs.specs.Calling.{binders, with_actuals, formals_in}
use Rattle.mlk_machine_jobs.specs.Views.{binder_of, bindings_of, in_table, value_at}
use Rattle.mlk_machine_jobs.specs.JobViews.{frame_of, job_of}
use Rattle.mlk_machine_run.proofs.FrameLemmas.{formals_have_tables, table_filled, bound_job}
use Rattle.mlk_machine_run.proofs.call.bind.Goals as goal

pub returns-in_err-begin_frame-clause-sound : goal.returns-in_err-begin_frame-clause-sound
returns-in_err-begin_frame-clause-sound c =
    c.begin_frame.ensures.sound (formals_have_tables c.args.job.now.binders.items c.in_ok-found.found.items
    (length c.args.job.now.tables.items) c.formals_in-formals.result.now (actual_trees c.args.given.now) c.requires.tables
    (c.in_ok-found.ensures
    ∙ ap (λ (bs : List Binder). binders (bindings_of bs) c.len.result c.formals_in-formals.result.now (actual_trees c.args.given.now))
    c.as_slice.ensures.value
    ∙ ap (λ (n : ℕ). binders (bindings_of c.args.job.now.binders.items) n c.formals_in-formals.result.now
    (actual_trees c.args.given.now)) (omega (arith, c.len.ensures, c.args.job.now.tables.ok))))

pub returns-clause-sound : goal.returns-clause-sound
returns-clause-sound c =
    c.use_up-2.ensures.sound (c.use_up.ensures.sound (
    c.begin_frame.ensures.sound (formals_have_tables c.args.job.now.binders.items c.in_ok-found.found.items
    (length c.args.job.now.tables.items) c.formals_in-formals.result.now (actual_trees c.args.given.now) c.requires.tables
    (c.in_ok-found.ensures
    ∙ ap (λ (bs : List Binder). binders (bindings_of bs) c.len.result c.formals_in-formals.result.now
    (actual_trees c.args.given.now)) c.as_slice.ensures.value
    ∙ ap (λ (n : ℕ). binders (bindings_of c.args.job.now.binders.items) n c.formals_in-formals.result.now
    (actual_trees c.args.given.now)) (omega (arith, c.len.ensures, c.args.job.now.tables.ok))))
    ))

pub returns-clause-answer : goal.returns-clause-answer
returns-clause-answer c =
    let fs : List (List ℕ) = formals_in (line_of c.args.begin.line.now).0 in
    let formals : c.formals_in-formals.result.now ≡ fs = c.formals_in-formals.ensures in
    let found : map binder_of c.in_ok-found.found.items
    ≡ binders (bindings_of c.args.job.now.binders.items) (length c.args.job.now.tables.items) fs (actual_trees c.args.given.now) =
    c.in_ok-found.ensures
    ∙ ap (λ (bs : List Binder). binders (bindings_of bs) c.len.result c.formals_in-formals.result.now (actual_trees c.args.given.now))
    c.as_slice.ensures.value
    ∙ ap (λ (n : ℕ). binders (bindings_of c.args.job.now.binders.items) n c.formals_in-formals.result.now
    (actual_trees c.args.given.now)) (omega (arith, c.len.ensures, c.args.job.now.tables.ok))
    ∙ ap (λ (z : List (List ℕ)). binders (bindings_of c.args.job.now.binders.items) (length c.args.job.now.tables.items) z
    (actual_trees c.args.given.now)) formals in
    sym (ap Ok (c.use_up-2.ensures.changed ∙ ap (dropped c.count_given-count.result) c.use_up.ensures.changed
    ∙ ap (λ (z : Job). dropped c.count_given-count.result (dropped c.args.skipped z)) c.in_ok-begin_frame.ensures.job)
    ∙ bound_job (job_of c.args.job.now) (frame_of c.args.begin.frame) c.args.begin.routine (line_of c.args.begin.line.now)
    (map line_of c.args.begin.later.now) (map binder_of c.in_ok-found.found.items)
    (value_at (c.args.job.now.tables.items ++ c.fill_formals.new.table ∷ [])) c.count_given-count.result c.args.skipped
    (actual_trees c.args.given.now) found
    (table_filled c.args.job.now.tables.items c.fill_formals.new.table c.formals_in-formals.result.now (actual_trees c.args.given.now)
    c.values_below.result.now (in_table c.new-table.result) c.new-table.ensures c.in_ok-fill_formals.ensures
    ∙ ap (λ (z : List (List ℕ)). with_actuals (length c.args.job.now.tables.items) z (actual_trees c.args.given.now)
    c.values_below.result.now (value_at c.args.job.now.tables.items)) formals
    ∙ ap (λ (z : List (List ℕ)). with_actuals (length c.args.job.now.tables.items) fs (actual_trees c.args.given.now) z
    (value_at c.args.job.now.tables.items))
    (c.values_below.ensures ∙ ap (λ (n : ℕ). reverse (take n (drop c.args.skipped c.args.job.now.values))) c.count_given-count.ensures))
    c.count_given-count.ensures)
