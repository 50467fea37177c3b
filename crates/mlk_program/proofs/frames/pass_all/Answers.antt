use Rattle.mlk_program.proofs.Learned.{passed_next}
use Rattle.mlk_program.proofs.frames.pass_all.Goals as goal

pub loop-actual-preserved : goal.loop-actual-preserved
loop-actual-preserved c = passed_next c.args.part c.args.given.now c.loop-actual.actual-index c.actual-item.result c.args.frames.now
    c.loop-actual.frames c.pass_by.new.frames c.loop-actual-test.true c.actual-item.is c.loop-actual.invariant c.in_ok-pass_by.ensures
