use Rattle.mlk_walk_lines.proofs.FewStates.{one_more}
use Rattle.mlk_walk_lines.proofs.control.put_few.Goals as goal

pub loop-state-preserved-in-Continue-1 : goal.loop-state-preserved-in-Continue-1
loop-state-preserved-in-Continue-1 c =
    one_more c.in-Some.state c.loop-state.yielded c.args.states c.loop-state.all c.put.new.states c.loop-state.invariant c.in_ok-put.ensures
