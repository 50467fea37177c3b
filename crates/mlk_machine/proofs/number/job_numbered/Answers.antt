use Rattle.mlk_machine_run.proofs.SystemLemmas.{found_within}
use Rattle.mlk_machine.proofs.NumberLemmas.{no_job, the_job}
use Rattle.mlk_machine.proofs.number.job_numbered.Goals as goal

pub returns-in_default : goal.returns-in_default
returns-in_default c =
    no_job c.args.number c.args.jobs.now c.place_in.result (c.place_in.ensures c.args.jobs.now c.requires) c.in_default.is

pub bounds-jobs-place : goal.bounds-jobs-place
bounds-jobs-place c =
    found_within c.args.jobs.now c.place_in.result c.in-Some.place c.in-Some.is
    (c.place_in.ensures c.args.jobs.now c.requires).within

pub returns : goal.returns
returns c =
    the_job c.args.number c.args.jobs.now c.place_in.result (c.place_in.ensures c.args.jobs.now c.requires) c.in-Some.place
    c.index-jobs-place.result c.in-Some.is c.index-jobs-place.is
