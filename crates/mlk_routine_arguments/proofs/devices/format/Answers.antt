use Rattle.std.proofs.Common.{option_map}
use Rattle.mlk_syntax.specs.ExprTrees.{tree_of}
use Rattle.mlk_routine_arguments.proofs.Sequences.{both_told}
use Rattle.mlk_routine_arguments.proofs.Formats.{marked_parts, format_told}
use Rattle.mlk_routine_arguments.proofs.devices.format.Goals as goal

pub returns : goal.returns
returns c =
    format_told c.args.line.now c.args.at c.requires.starts c.expr_after.result (option_map tree_of)
    (both_told (marked_parts c.args.line.now c.args.at) c.requires.within tt c.past_marks-next.result c.past_marks-next.ensures c.expr_after.result (option_map tree_of) c.expr_after.ensures)
