use Rattle.mlk_machine_locks.specs.Tables.{IsFound}
use Rattle.mlk_machine_locks.proofs.TableLemmas.{one_done, all_done, no_items, found_still}
use Rattle.mlk_machine_locks.proofs.table.LockTable.list.Goals as goal

pub loop-name-preserved : goal.loop-name-preserved
loop-name-preserved c = (
  λ key place l. c.list_one.ensures.kept key place (c.loop-name.invariant.0 key place l),
  one_done (λ n. IsFound c.loop-name.self c.args.place n) (λ n. IsFound c.list_one.new.self c.args.place n)
      c.args.names.now c.loop-name.left.now c.loop-name.invariant.1 c.in-Some.others.now c.in-Some.name.now
      c.in-Some.ensures.cases.0
      (λ n f. found_still c.loop-name.self c.list_one.new.self c.args.place n c.list_one.ensures.kept f)
      c.in_ok-list_one.ensures.found,
)

pub returns-clause-found : goal.returns-clause-found
returns-clause-found c =
    all_done (λ n. IsFound c.loop-name.self c.args.place n) c.args.names.now c.loop-name.left.now c.loop-name.invariant.1
    (no_items c.loop-name.left.now c.in_default.ensures.cases)
