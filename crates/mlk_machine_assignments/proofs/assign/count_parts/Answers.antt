use Rattle.mlk_machine_assignments.proofs.AssignParts.{counted_up}
use Rattle.mlk_machine_assignments.proofs.assign.count_parts.Goals as goal

pub returns : goal.returns
returns c = counted_up c.loop-target.left.now c.loop-target.count _ c.in_default.ensures.cases
    c.loop-target.invariant.0 c.loop-target.invariant.1
