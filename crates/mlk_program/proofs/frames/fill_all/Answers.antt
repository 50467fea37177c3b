use Rattle.mlk_program.proofs.Learned.{filled_first, filled_next}
use Rattle.mlk_program.proofs.frames.fill_all.Goals as goal

pub loop-i-init : goal.loop-i-init
loop-i-init c = filled_first c.args.entry c.args.formals.now c.args.frames.now

pub loop-i-preserved : goal.loop-i-preserved
loop-i-preserved c = filled_next c.args.entry c.args.formals.now c.args.given.now c.loop-i.i c.index-given-i.result c.args.frames.now c.loop-i.frames
    c.fill_by.new.frames c.loop-i-test.true c.index-given-i.is c.loop-i.invariant (rw c.item.ensures at c.in_ok-fill_by.ensures)
