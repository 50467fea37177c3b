use Rattle.mlk_program.proofs.FrameNames.{shared_filled, shared_passed}
use Rattle.mlk_program.proofs.program.Program.is_shared_in.Goals as goal

pub returns-then-has_filled : goal.returns-then-has_filled
returns-then-has_filled c = rw (← c.self.view_is) (shared_filled c.self.inside.directory c.self.inside.frames c.args.entry c.args.name.now
    c.has_filled.result c.self.invariant.2 (rw c.as_bytes-name.ensures at c.has_filled.ensures) c.if-has_filled.true)

pub returns-else-has_filled : goal.returns-else-has_filled
returns-else-has_filled c = rw (← c.self.view_is) (shared_passed c.self.inside.directory c.self.inside.frames c.args.entry c.args.name.now
    c.has_filled.result c.has_passed.result c.self.invariant.2 (rw c.as_bytes-name.ensures at c.has_filled.ensures) c.if-has_filled.false
    (rw (c.part_of.ensures, c.as_bytes-name.ensures) at c.has_passed.ensures))
