use Rattle.std.proofs.Common.{◌∙◌, map, refl, ap}
use Rattle.mlk_machine_jobs.specs.declared.job.Job.{Job as JobIn}
use Rattle.mlk_machine.specs.Copies.{shown_of, values_in}
use Rattle.mlk_machine.proofs.CopyLemmas.{same_job, same_sound}
use Rattle.mlk_machine.proofs.copying.copy_job.Goals as goal

pub returns-clause-same : goal.returns-clause-same
returns-clause-same c =
    let copy : JobIn = record {
      number = c.args.job.now.number;
      test = c.args.job.now.test;
      routine = c.args.job.now.routine;
      binders = c.in_ok-from_slice.field-0;
      tables = c.in_ok-copy_tables.field-0;
      values = c.in_ok-copy.field-0;
      held = c.in_ok-copy-2.field-0;
      pending = c.in_ok-copy_pending.field-0;
      stopped = c.args.job.now.stopped;
    } in
    same_job c.args.job.now copy refl refl refl (c.in_ok-from_slice.ensures.items ∙ c.as_slice.ensures.value)
    (c.in_ok-copy_tables.ensures ∙ ap (map values_in) c.as_slice-2.ensures.value) c.in_ok-copy.ensures
    c.in_ok-copy-2.ensures (c.in_ok-copy_pending.ensures ∙ ap (map shown_of) c.as_slice-3.ensures.value) refl

pub returns-clause-sound : goal.returns-clause-sound
returns-clause-sound c =
    let copy : JobIn = record {
      number = c.args.job.now.number;
      test = c.args.job.now.test;
      routine = c.args.job.now.routine;
      binders = c.in_ok-from_slice.field-0;
      tables = c.in_ok-copy_tables.field-0;
      values = c.in_ok-copy.field-0;
      held = c.in_ok-copy-2.field-0;
      pending = c.in_ok-copy_pending.field-0;
      stopped = c.args.job.now.stopped;
    } in
    same_sound c.args.job.now copy (c.in_ok-from_slice.ensures.items ∙ c.as_slice.ensures.value)
    (c.in_ok-copy_tables.ensures ∙ ap (map values_in) c.as_slice-2.ensures.value)
    (c.in_ok-copy_pending.ensures ∙ ap (map shown_of) c.as_slice-3.ensures.value)
