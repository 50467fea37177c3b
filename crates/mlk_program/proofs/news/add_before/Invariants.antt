use Rattle.std.proofs.Common.{take}
use Rattle.std.specs.Prelude.{flat_map}
use Rattle.mlk_program.specs.News.{Adds, news_with}
use Rattle.mlk_program.proofs.news.add_before.Given as goal

abbrev pub invariant-loop-command : goal.invariant-loop-command
invariant-loop-command l = Adds (flat_map news_with (take l.command-index l.commands)) l.fn.names.items l.names.items
