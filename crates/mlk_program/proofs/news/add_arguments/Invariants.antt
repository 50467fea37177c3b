use Rattle.std.proofs.Common.{take}
use Rattle.std.specs.Prelude.{map}
use Rattle.mlk_syntax.specs.Views.{new_of}
use Rattle.mlk_program.specs.News.{Adds}
use Rattle.mlk_program.proofs.news.add_arguments.Given as goal

abbrev pub invariant-loop-argument : goal.invariant-loop-argument
invariant-loop-argument l = Adds (map new_of (take l.argument-index l.arguments)) l.fn.names.items l.names.items
