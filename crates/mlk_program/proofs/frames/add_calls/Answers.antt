use Rattle.mlk_program.specs.Tables.{trees}
use Rattle.mlk_program.specs.Linking.{placed_at}
use Rattle.mlk_program.proofs.Learned.{learns_next}
use Rattle.mlk_program.proofs.frames.add_calls.Goals as goal

pub loop-site-preserved : goal.loop-site-preserved
loop-site-preserved c = learns_next (placed_at c.args.part.routine c.args.line) (trees c.args.directory.now) c.args.part c.args.found.now
    c.loop-site.site-index c.site-item.result c.loop-site-test.true c.site-item.is c.args.frames.now c.loop-site.frames
    c.add_call.new.frames c.loop-site.invariant c.in_ok-add_call.ensures
