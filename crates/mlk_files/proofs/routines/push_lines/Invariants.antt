use Rattle.std.proofs.Common.{◌≡◌, ◌++◌, ℕ, List}
use Rattle.mlk_cli.specs.CommandLine.{bytes_of}
use Rattle.mlk_files.proofs.routines.push_lines.Given as goal

abbrev pub invariant-loop-line : goal.invariant-loop-line
invariant-loop-line l = (more : List (List ℕ)) × (bytes_of l.paths.items ≡ bytes_of l.fn.paths.items ++ more)
