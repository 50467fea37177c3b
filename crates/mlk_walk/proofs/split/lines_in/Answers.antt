use Rattle.std.proofs.Common.{◌∙◌, ap, map}
use Rattle.std.specs.Prelude.{option_map, option_copied}
use Rattle.mlk_syntax.specs.Views.{line_of, lines_from, routine_of}
use Rattle.mlk_walk_lines.specs.Endings.{OfFrame, head_of}
use Rattle.mlk_walk_lines.specs.Lines.{walk_lines}
use Rattle.mlk_walk_lines.proofs.Parts.{entry_whole}
use Rattle.mlk_walk.specs.Verdicts.{head_after}
use Rattle.mlk_walk.proofs.split.lines_in.Goals as goal

pub returns : goal.returns
returns c sc =
    let lines = lines_from (map line_of c.lines_of-lines.result.now) in
    entry_whole sc (option_map head_of (option_copied c.line_after-after.result)) lines
    ∙ ap (λ after. walk_lines sc (OfFrame after) lines) c.line_after-after.ensures
    ∙ ap (λ ls. walk_lines sc (OfFrame (head_after (map routine_of c.args.program.now) c.args.entry)) (lines_from ls)) c.lines_of-lines.ensures
