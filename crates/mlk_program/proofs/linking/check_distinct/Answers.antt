use Rattle.std.proofs.Common.{◌∙◌, sym}
use Rattle.mlk_program.proofs.DistinctNames.{distinct_next, is_twice, is_place, no_place, refused_map}
use Rattle.mlk_program.proofs.linking.check_distinct.Goals as goal

pub returns-then-ne-clause-refused : goal.returns-then-ne-clause-refused
returns-then-ne-clause-refused c =
    let v = c.routines-routine-items.ensures in
    let found = rw c.as_bytes.ensures at c.routine.ensures in
    refused_map c.refusal.result _ _
    (is_twice c.args.directory.now c.loop-i.i c.routine-item.result (rw v at c.loop-i-test.true) (rw v at c.routine-item.is)
    c.loop-i.invariant (λ k. no_place c.routine.result c.loop-i.i c.if-ne.ensures (found ∙ k)))
    (rw c.new-then-ne.ensures at rw c.new.ensures at c.refusal.ensures)

pub loop-i-preserved : goal.loop-i-preserved
loop-i-preserved c =
    let v = c.routines-routine-items.ensures in
    let found = rw c.as_bytes.ensures at c.routine.ensures in
    distinct_next c.args.directory.now c.loop-i.i c.routine-item.result (rw v at c.loop-i-test.true) (rw v at c.routine-item.is)
    c.loop-i.invariant (sym found ∙ is_place c.routine.result c.loop-i.i c.if-ne.ensures)
