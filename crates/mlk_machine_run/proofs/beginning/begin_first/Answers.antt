use Rattle.std.proofs.Common.{◌≡◌, ◌∙◌, ℕ, List, [], ◌∷◌, ◌++◌, length, Some, Ok, ap, sym, arith}
use Rattle.std.specs.Prelude.{map}
use Rattle.mlk_syntax.specs.Views.{line_of}
use Rattle.mlk_machine_jobs.specs.declared.binding.Binder.{Binder}
use Rattle.mlk_machine_jobs.specs.Bindings.{Bindings, no_values}
use Rattle.mlk_machine_jobs.specs.Tasks.{Job}
use Rattle.mlk_machine_jobs.specs.Calling.{binders, with_actuals, formals_in}
use Rattle.mlk_machine_jobs.specs.Runs.{by_value}
use Rattle.mlk_machine_jobs.specs.Views.{binder_of, bindings_of, in_table, value_at}
use Rattle.mlk_machine_jobs.specs.JobViews.{frame_of, job_of}
use Rattle.mlk_machine_run.proofs.FrameLemmas.{formals_have_tables, first_table, first_begun}
use Rattle.mlk_machine_run.proofs.beginning.begin_first.Goals as goal

pub returns-clause-sound : goal.returns-clause-sound
returns-clause-sound c =
    c.begin_frame.ensures.sound (formals_have_tables c.args.job.now.binders.items c.in_ok-found.found.items
    (length c.args.job.now.tables.items) c.formals_in-formals.result.now [] c.requires.sound.tables
    (c.in_ok-found.ensures
    ∙ ap (λ (bs : List Binder). binders (bindings_of bs) c.len.result c.formals_in-formals.result.now []) c.as_slice.ensures.value
    ∙ ap (λ (n : ℕ). binders (bindings_of c.args.job.now.binders.items) n c.formals_in-formals.result.now [])
    (omega (arith, c.len.ensures, c.args.job.now.tables.ok))))

pub returns-clause-answer : goal.returns-clause-answer
returns-clause-answer c =
    let fs : List (List ℕ) = formals_in (line_of c.args.begin.line.now).0 in
    let formals : c.formals_in-formals.result.now ≡ fs = c.formals_in-formals.ensures in
    let next : length c.args.job.now.tables.items ≡ 1 = ap (λ (z : Job). z.next) c.requires.number in
    let bound : bindings_of c.args.job.now.binders.items ≡ [] = ap (λ (z : Job). z.bindings) c.requires.number in
    let found : map binder_of c.in_ok-found.found.items ≡ binders [] 1 fs [] =
    c.in_ok-found.ensures
    ∙ ap (λ (bs : List Binder). binders (bindings_of bs) c.len.result c.formals_in-formals.result.now []) c.as_slice.ensures.value
    ∙ ap (λ (z : Bindings). binders z c.len.result c.formals_in-formals.result.now []) bound
    ∙ ap (λ (n : ℕ). binders [] n c.formals_in-formals.result.now [])
    (omega (arith, c.len.ensures, c.args.job.now.tables.ok, next))
    ∙ ap (λ (z : List (List ℕ)). binders [] 1 z []) formals in
    sym (ap Ok c.in_ok-begin_frame.ensures.job
    ∙ first_begun (job_of c.args.job.now).number (job_of c.args.job.now).test (frame_of c.args.begin.frame) c.args.begin.routine
    (line_of c.args.begin.line.now) (map line_of c.args.begin.later.now) (map binder_of c.in_ok-found.found.items)
    (value_at (c.args.job.now.tables.items ++ c.fill_first.new.table ∷ [])) (job_of c.args.job.now) c.args.values.now
    c.requires.number found
    (first_table c.args.job.now.tables.items c.fill_first.new.table c.formals_in-formals.result.now c.args.values.now
    (in_table c.new-table.result) next (ap (λ (z : Job). z.cells) c.requires.number) c.new-table.ensures
    c.in_ok-fill_first.ensures
    ∙ ap (λ (z : List (List ℕ)). with_actuals 1 z (by_value (map Some c.args.values.now)) c.args.values.now no_values) formals))
