use Rattle.std.proofs.Common.{ℕ, List, ◌++◌, drop}
use Rattle.mlk_cli.specs.CommandLine.{bytes_of, texts_of}
use Rattle.mlk_files.specs.Files.{AreFound}
use Rattle.mlk_files.proofs.routines.find_routines.Given as goal

abbrev pub invariant-loop-path : goal.invariant-loop-path
invariant-loop-path g l = (more : List (List ℕ)) → AreFound (g.F.Files.below l.files) (bytes_of (drop l.path-index l.paths)) more → AreFound (g.F.Files.below l.files) (bytes_of l.paths) (texts_of l.found.items ++ more)
