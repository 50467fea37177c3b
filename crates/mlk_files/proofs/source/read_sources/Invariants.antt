use Rattle.std.proofs.Common.{◌++◌, List, drop, take}
use Rattle.mlk_reading.specs.declared.source.Source.{Source}
use Rattle.mlk_files.specs.Files.{AreSources, AreHeld}
use Rattle.mlk_cli.specs.CommandLine.{bytes_of}
use Rattle.mlk_files.proofs.source.read_sources.Given as goal

abbrev pub invariant-loop-path : goal.invariant-loop-path
invariant-loop-path g l = record {
  read : (more : List Source) → AreSources (g.F.Files.holds l.files) (drop l.path-index l.paths) more → AreSources (g.F.Files.holds l.files) l.paths (l.sources.items ++ more);
  held : AreHeld (g.F.Files.holds l.files) (bytes_of (take l.path-index l.paths));
}
