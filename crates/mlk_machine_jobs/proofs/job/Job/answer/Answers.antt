use Rattle.std.proofs.Common.{ℕ, List, ap, sym, ◌∙◌}
use Rattle.mlk_machine_jobs.specs.JobViews.{job_of, tasks_of}
use Rattle.mlk_machine_jobs.proofs.AnswerLemmas.{kept_answer, dropped_answer}
use Rattle.mlk_machine_jobs.proofs.job.Job.answer.Goals as goal

pub returns-then-not-keep_value-clause-changed : goal.returns-then-not-keep_value-clause-changed
returns-then-not-keep_value-clause-changed c =
    ap (λ (vs : List (List ℕ)). record (job_of c.args.self.now) {
      values = vs;
      tasks = tasks_of c.args.self.now.binders.items c.keep_value.new.pending.items;
    }) c.use_up.ensures
    ∙ dropped_answer (job_of c.args.self.now) (tasks_of c.args.self.now.binders.items c.args.self.now.pending.items) _
    (sym (c.keep_value.ensures.keeps c.args.self.now.binders.items) ∙ c.if-not-keep_value.true)
    (c.keep_value.ensures.kept c.args.self.now.binders.items)

pub returns-else-not-keep_value-clause-changed : goal.returns-else-not-keep_value-clause-changed
returns-else-not-keep_value-clause-changed c =
    kept_answer (job_of c.args.self.now) (tasks_of c.args.self.now.binders.items c.args.self.now.pending.items) _
    (sym (c.keep_value.ensures.keeps c.args.self.now.binders.items) ∙ c.if-not-keep_value.false)
    (c.keep_value.ensures.kept c.args.self.now.binders.items)
