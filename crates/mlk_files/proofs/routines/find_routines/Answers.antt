use Rattle.std.proofs.Common.{arith}
use Rattle.mlk_cli.specs.CommandLine.{texts_of}
use Rattle.mlk_files.proofs.Found.{found-more, found-all}
use Rattle.mlk_files.proofs.routines.find_routines.Goals as goal

pub loop-path-preserved : goal.loop-path-preserved
loop-path-preserved g c =
    let this = c.in_ok-push_found.ensures.ok in
    found-more (g.F.Files.below c.args.files.now) c.args.paths.now c.loop-path.path-index _ this.0 (texts_of c.loop-path.found.items) (texts_of c.push_found.new.found.items)
    c.loop-path-test.true this.1 this.2 c.loop-path.invariant

pub returns-clause-ok : goal.returns-clause-ok
returns-clause-ok g c = found-all (g.F.Files.below c.args.files.now) c.args.paths.now c.loop-path.path-index (texts_of c.loop-path.found.items) (omega (arith, c.loop-path-test.false)) c.loop-path.invariant
