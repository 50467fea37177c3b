use Rattle.mlk_program.proofs.SharedNames.{received_none, received_next}
use Rattle.mlk_program.proofs.shared.SharedNames.add_received.Goals as goal

pub loop-i-init : goal.loop-i-init
loop-i-init c = received_none c.args.formals.now c.args.self.now

pub loop-i-preserved : goal.loop-i-preserved
loop-i-preserved c = received_next c.args.formals.now c.args.given.now c.loop-i.i c.index-given-i.result c.args.self.now c.loop-i.self
    c.add_received_at.new.self c.loop-i-test.true c.index-given-i.is c.loop-i.invariant (rw c.item.ensures at c.in_ok-add_received_at.ensures)
