use Rattle.std.proofs.Common.{◌≡◌, take}
use Rattle.std.specs.Prelude.{flat_map, map}
use Rattle.mlk_syntax.specs.Views.{line_of}
use Rattle.mlk_program.specs.News.{new_tree, news_at}
use Rattle.mlk_program.proofs.news.new_names.Given as goal

abbrev pub invariant-loop-line : goal.invariant-loop-line
invariant-loop-line l = map new_tree l.names.items ≡ flat_map (λ m. news_at (line_of m)) (take l.line-index l.lines)
