use Rattle.std.proofs.Common.{ℕ, ap, ◌∙◌}
use Rattle.mlk_machine_jobs.specs.Bindings.{Cells}
use Rattle.mlk_machine_jobs.specs.Views.{value_at}
use Rattle.mlk_machine_jobs.specs.JobViews.{job_of}
use Rattle.mlk_machine_jobs.proofs.TakenLemmas.{killed_by}
use Rattle.mlk_machine_jobs.proofs.job.Job.kill.Goals as goal

pub returns-clause-ok : goal.returns-clause-ok
returns-clause-ok c =
    ap (λ (n : ℕ). record (job_of c.args.self.now) { next = n; cells = value_at c.leave_out.new.tables.items })
    c.leave_out.ensures.len
    ∙ ap (λ (cells : Cells). record (job_of c.args.self.now) { cells = cells })
    (killed_by c.args.self.now.binders.items _ _ _ c.args.names c.in_ok-shared.shared.items _ c.in_ok-spared.spared.items _ _ _
    c.as_slice.ensures.value c.as_slice-2.ensures.value c.as_slice-3.ensures.value
    c.as_slice-4.ensures.value c.as_slice-5.ensures.value
    c.in_ok-shared.ensures c.in_ok-spared.ensures c.leave_out.ensures.values)
