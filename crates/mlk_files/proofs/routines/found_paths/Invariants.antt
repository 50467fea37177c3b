use Rattle.std.proofs.Common.{◌≡◌, ◌++◌, drop}
use Rattle.mlk_cli.specs.CommandLine.{bytes_of, texts_of}
use Rattle.mlk_files.proofs.routines.found_paths.Given as goal

abbrev pub invariant-loop-path : goal.invariant-loop-path
invariant-loop-path l = bytes_of l.paths.items ++ texts_of (drop l.path-index l.found) ≡ texts_of l.found
