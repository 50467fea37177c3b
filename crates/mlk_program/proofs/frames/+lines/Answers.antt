use Rattle.std.proofs.Common.{sym, subst}
use Rattle.mlk_program.specs.Tables.{trees}
use Rattle.mlk_program.specs.Linking.{placed_in}
use Rattle.mlk_program.specs.Frames.{LearnsCalls}
use Rattle.mlk_program.proofs.LinkedLines.{line_parts}
use Rattle.mlk_program.proofs.Learned.{learns_calls, learns_next}
use Rattle.mlk_program.proofs.frames.+lines.Goals as goal

pub add_line-returns : goal.add_line-returns
add_line-returns t c =
    let rs = trees c.args.directory.now in
    let parts = line_parts c.args.part.routine c.args.line.now c.in_commands.new.found.items (rw c.new-found.ensures.items at c.in_ok-in_commands.ensures) in
    subst (λ calls. LearnsCalls rs c.args.part calls c.args.frames.now c.add_block.new.frames) (sym parts)
    (learns_calls rs c.args.part _ _ c.args.frames.now c.add_calls.new.frames c.add_block.new.frames
    (rw c.as_slice.ensures.value at c.in_ok-add_calls.ensures) (rw c.as_slice-2.ensures.value at c.in_ok-add_block.ensures))

pub add_block-loop-line-preserved : goal.add_block-loop-line-preserved
add_block-loop-line-preserved t c = learns_next (placed_in c.args.part.routine) (trees c.args.directory.now) c.args.part c.args.lines.now
    c.loop-line.line-index c.line-item.result c.loop-line-test.true c.line-item.is c.args.frames.now c.loop-line.frames
    c.add_line.new.frames c.loop-line.invariant c.in_ok-add_line.ensures
