use Rattle.std.proofs.Common.{◌∙◌, ap, take_all}
use Rattle.std.specs.Prelude.{flat_map}
use Rattle.mlk_syntax.specs.Views.{line_of}
use Rattle.mlk_program.specs.News.{news_at}
use Rattle.mlk_program.proofs.NewLists.{news_mapped}
use Rattle.mlk_program.proofs.news.new_names.Goals as goal

pub returns : goal.returns
returns c = c.loop-line.invariant
    ∙ ap (flat_map (λ m. news_at (line_of m))) (take_all c.loop-line.line-index c.args.lines.now c.loop-line-test.false)
    ∙ news_mapped c.args.lines.now
