use Rattle.mlk_machine_jobs.proofs.cell.CellTable.remove.Goals as goal

pub returns : goal.returns
returns c n = c.swap_remove.ensures.updates.0 (record (c.args.name) { now = n })
