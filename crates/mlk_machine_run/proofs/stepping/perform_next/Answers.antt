use Rattle.std.proofs.Common.{length}
use Rattle.mlk_machine_jobs.proofs.SoundLemmas.{stands_before}
use Rattle.mlk_machine_run.proofs.stepping.perform_next.Goals as goal

pub end_block-requires-clause-sound : goal.end_block-requires-clause-sound
end_block-requires-clause-sound c =
    stands_before c.args.job.now.binders.items (length c.args.job.now.tables.items) c.args.job.now.pending.items c.args.next.now
    c.requires

pub end_frame-requires-clause-sound : goal.end_frame-requires-clause-sound
end_frame-requires-clause-sound c =
    stands_before c.args.job.now.binders.items (length c.args.job.now.tables.items) c.args.job.now.pending.items c.args.next.now
    c.requires
