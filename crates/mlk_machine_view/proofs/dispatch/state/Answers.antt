use Rattle.std.proofs.Common.{◌≡◌, ◌-◌, length, map, rules, slice_get, Some}
use Rattle.mlk_syntax.specs.Views.{routine_of}
use Rattle.mlk_machine_jobs.specs.declared.pending.Pending.TheVariants as pending
use Rattle.mlk_machine_view.proofs.NextLemmas.{next_shows}
use Rattle.mlk_machine_view.proofs.dispatch.state.Goals as goal

pub returns-in-Some-Task : goal.returns-in-Some-Task
returns-in-Some-Task c =
    let ps = c.args.job.now.pending.items in
    let last : slice_get ps (length ps - 1) ≡ Some (pending.Task c.in-Some-Task.task) = search rules in
    next_shows (map routine_of c.args.program.now) c.args.job.now c.in-Some-Task.task _ last c.task_state.ensures
