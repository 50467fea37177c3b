use Rattle.mlk_machine_steps.proofs.ScopeLemmas.{job_back, sound_back}
use Rattle.mlk_machine_steps.proofs.scope.go_back.Goals as goal

pub returns-clause-job : goal.returns-clause-job
returns-clause-job c =
    job_back c.args.job.now c.args.back _ _ _ c.requires c.truncate.ensures.items c.forget.ensures.len c.forget.ensures.values

pub returns-clause-sound : goal.returns-clause-sound
returns-clause-sound c =
    sound_back c.args.job.now c.args.back _ _ c.requires c.truncate.ensures.items c.forget.ensures.len
