use Rattle.mlk_machine_locks.specs.Keys.{asked_from, asked_of}
use Rattle.mlk_machine_locks.specs.Tables.{IsFreeUnder}
use Rattle.mlk_machine_locks.proofs.TableLemmas.{one_done, two_done, next_asked, last_asked, free_so}
use Rattle.mlk_machine_locks.proofs.table.LockTable.is_free.Goals as goal

pub loop-subscript-preserved : goal.loop-subscript-preserved
loop-subscript-preserved g c = (
  c.some_keeps.ensures.covers,
  one_done (λ k. IsFreeUnder g.J.Seen.seen c.args.jobs.now c.args.number c.args.name.now k)
      (λ k. IsFreeUnder g.J.Seen.seen c.args.jobs.now c.args.number c.args.name.now k)
      (asked_of c.args.name.now) (asked_from c.loop-subscript.key c.loop-subscript.left.now) c.loop-subscript.invariant.1
      (asked_from c.key_below-key.result c.in-Some.others.now) c.own_key.result
      (next_asked c.loop-subscript.key c.key_below-key.result c.own_key.result c.loop-subscript.left.now c.in-Some.others.now
      c.in-Some.subscript.now c.in-Some.ensures.cases.0 c.own_key.ensures c.key_below-key.ensures)
      (λ k f. f) (c.some_keeps.ensures.free c.if-some_keeps.false),
)

pub returns-clause-free : goal.returns-clause-free
returns-clause-free g c =
    free_so g.J.Seen.seen c.args.jobs.now c.args.number c.args.name.now c.some_keeps-3.result c.some_keeps-3.ensures.kept
    (λ same.
    two_done (λ k. IsFreeUnder g.J.Seen.seen c.args.jobs.now c.args.number c.args.name.now k)
    (λ k. IsFreeUnder g.J.Seen.seen c.args.jobs.now c.args.number c.args.name.now k)
    (λ k. IsFreeUnder g.J.Seen.seen c.args.jobs.now c.args.number c.args.name.now k)
    (asked_of c.args.name.now) (asked_from c.loop-subscript.key c.loop-subscript.left.now) c.own_key-2.result c.loop-subscript.key
    c.loop-subscript.invariant.1
    (last_asked c.loop-subscript.key c.own_key-2.result c.loop-subscript.left.now c.in_default.ensures.cases c.own_key-2.ensures)
    (λ k f. f) (c.some_keeps-2.ensures.free c.if-some_keeps-2.false) (λ k f. f) (c.some_keeps-3.ensures.free same))
