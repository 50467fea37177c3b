use Rattle.mlk_machine_jobs.proofs.LockNameLemmas.{local_count, global_count}
use Rattle.mlk_machine_jobs.proofs.locking.subscripts_of.Goals as goal

pub returns-in-Local : goal.returns-in-Local
returns-in-Local c = local_count c.args.variable.now c.in-Local.field-0 c.in-Local.subscripts c.as_slice.result.now
    c.in-Local.is c.as_slice.ensures.value

pub returns-in-Global : goal.returns-in-Global
returns-in-Global c = global_count c.args.variable.now c.in-Global.field-0 c.in-Global.field-1 c.in-Global.subscripts
    c.as_slice-in-Global.result.now c.in-Global.is c.as_slice-in-Global.ensures.value
