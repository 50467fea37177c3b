use Rattle.mlk_program.proofs.Directories.{tables_next}
use Rattle.mlk_program.proofs.directory.label_tables.Goals as goal

pub loop-routine-preserved : goal.loop-routine-preserved
loop-routine-preserved c = tables_next c.args.routines.now c.loop-routine.routine-index c.routine-item.result c.loop-routine.tables.items
    c.push.new.self.items _ c.loop-routine-test.true c.routine-item.is c.loop-routine.invariant (rw c.as_slice.ensures.value at c.in_ok-of.ensures) c.in-Ok.ensures.items
