use Rattle.mlk_machine_jobs.proofs.cell.CellTable.put.Goals as goal

pub returns-clause-ok : goal.returns-clause-ok
returns-clause-ok c n = c.in-Ok.ensures.updates.0 (record (c.args.name) { now = n })
