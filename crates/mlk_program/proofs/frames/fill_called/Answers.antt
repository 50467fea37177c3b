use Rattle.std.proofs.Common.{sym}
use Rattle.mlk_syntax.specs.ExprTrees.{actual_trees}
use Rattle.mlk_program.specs.Tables.{trees}
use Rattle.mlk_program.proofs.Learned.{filled_with}
use Rattle.mlk_program.proofs.frames.fill_called.Goals as goal

pub returns : goal.returns
returns c = filled_with (trees c.args.directory.now) c.args.own c.args.site.now.callee.now (actual_trees c.args.given.now) c.in-Some.entry
    c.in-Some-formals_at.formals.now c.args.frames.now c.fill_all.new.frames (sym c.in-Some.ensures) (sym c.in-Some-formals_at.ensures)
    c.in_ok-fill_all.ensures
