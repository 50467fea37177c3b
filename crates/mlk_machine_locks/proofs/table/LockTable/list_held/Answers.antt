use Rattle.mlk_machine_locks.proofs.TableLemmas.{held_done, held_all}
use Rattle.mlk_machine_locks.proofs.table.LockTable.list_held.Goals as goal

pub loop-entry-preserved : goal.loop-entry-preserved
loop-entry-preserved c = (
  λ key place l. c.list_one.ensures.kept key place (c.loop-entry.invariant.0 key place l),
  held_done c.loop-entry.self c.list_one.new.self c.args.place c.args.entries.now c.loop-entry.left.now c.in-Some.others.now
      c.in-Some.entry.now c.loop-entry.invariant.1 c.in-Some.ensures.cases.0 c.list_one.ensures.kept
      c.in_ok-list_one.ensures.found,
)

pub returns-clause-found : goal.returns-clause-found
returns-clause-found c = held_all c.loop-entry.self c.args.place c.args.entries.now c.loop-entry.left.now
    c.loop-entry.invariant.1 c.in_default.ensures.cases
