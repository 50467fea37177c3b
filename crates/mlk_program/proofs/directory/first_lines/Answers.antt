use Rattle.std.proofs.Common.{take, ap, ◌∙◌, ◌+◌}
use Rattle.mlk_program.proofs.EntryLines.{take_within}
use Rattle.mlk_program.proofs.directory.first_lines.Goals as goal

pub returns : goal.returns
returns c = c.split_at.ensures.front ∙ ap (λ m. take (1 + m) c.args.lines.now) c.min.ensures
    ∙ take_within c.in-Some.field-0-0.now c.in-Some.others.now c.args.lines.now c.args.later c.in-Some.ensures.cases.0
