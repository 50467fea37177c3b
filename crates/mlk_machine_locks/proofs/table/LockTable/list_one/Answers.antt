use Rattle.mlk_machine_locks.specs.Keys.{keys_from, keys_of}
use Rattle.mlk_machine_locks.specs.Tables.{IsListed}
use Rattle.mlk_machine_locks.proofs.TableLemmas.{one_done, two_done, next_keys, last_keys, on_ok}
use Rattle.mlk_machine_locks.proofs.table.LockTable.list_one.Goals as goal

pub loop-subscript-preserved : goal.loop-subscript-preserved
loop-subscript-preserved c = (
  λ key place l. c.add.ensures.kept key place (c.loop-subscript.invariant.0 key place l),
  one_done (λ k. IsListed c.loop-subscript.self k c.args.place) (λ k. IsListed c.add.new.self k c.args.place)
      (keys_of c.args.name.now) (keys_from c.loop-subscript.key c.loop-subscript.left.now) c.loop-subscript.invariant.1
      (keys_from c.key_below-key.result c.in-Some.others.now) c.loop-subscript.key
      (next_keys c.loop-subscript.key c.key_below-key.result c.loop-subscript.left.now c.in-Some.others.now c.in-Some.subscript.now
      c.in-Some.ensures.cases.0 c.key_below-key.ensures)
      (λ k l. c.add.ensures.kept k c.args.place l) c.in_ok-add.ensures.ok,
)

pub returns-clause-kept : goal.returns-clause-kept
returns-clause-kept c = λ key place l.
    c.add-3.ensures.kept key place (c.add-2.ensures.kept key place (c.loop-subscript.invariant.0 key place l))

pub returns-clause-found : goal.returns-clause-found
returns-clause-found c =
    on_ok c.add-3.result (λ l.
    two_done (λ k. IsListed c.loop-subscript.self k c.args.place) (λ k. IsListed c.add-2.new.self k c.args.place)
    (λ k. IsListed c.add-3.new.self k c.args.place)
    (keys_of c.args.name.now) (keys_from c.loop-subscript.key c.loop-subscript.left.now) c.loop-subscript.key c.own_key.result
    c.loop-subscript.invariant.1
    (last_keys c.loop-subscript.key c.own_key.result c.loop-subscript.left.now c.in_default.ensures.cases c.own_key.ensures)
    (λ k l. c.add-2.ensures.kept k c.args.place l) c.in_ok-add-2.ensures.ok
    (λ k l. c.add-3.ensures.kept k c.args.place l) l) c.add-3.ensures.ok
