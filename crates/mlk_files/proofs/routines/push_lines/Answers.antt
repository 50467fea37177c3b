use Rattle.std.proofs.Common.{◌++◌, ◌∷◌, []}
use Rattle.mlk_cli.specs.CommandLine.{bytes_of}
use Rattle.mlk_files.proofs.Found.{line-more}
use Rattle.mlk_files.proofs.routines.push_lines.Goals as goal

pub loop-line-preserved-in-Ok-1 : goal.loop-line-preserved-in-Ok-1
loop-line-preserved-in-Ok-1 c = (
  c.loop-line.invariant.0 ++ c.in-Some.line.now ∷ [],
  line-more (bytes_of c.args.paths.now.items) c.loop-line.invariant.0 c.loop-line.paths.items c.push.new.self.items c.in-Some.line c.loop-line.invariant.1 c.in-Ok.ensures.items,
)
