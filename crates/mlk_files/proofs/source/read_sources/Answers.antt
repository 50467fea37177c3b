use Rattle.std.proofs.Common.{rules}
use Rattle.mlk_files.proofs.Texts.{loses-first, held-more, read-more, read-all}
use Rattle.mlk_files.proofs.source.read_sources.Goals as goal

pub returns-in_err-source-clause-lost : goal.returns-in_err-source-clause-lost
returns-in_err-source-clause-lost g c =
    let lost = loses-first (g.F.Files.holds c.args.files.now) (g.F.Files.unreadable c.args.files.now) c.args.paths.now c.loop-path.path-index _ c.in_err-source.field-0.0 c.loop-path-test.true c.loop-path.invariant.held c.in_err-source.ensures.lost in
    grind rules

pub loop-path-preserved : goal.loop-path-preserved
loop-path-preserved g c = record {
  read = read-more (g.F.Files.holds c.args.files.now) c.args.paths.now c.loop-path.path-index _ c.in_ok-source.source c.loop-path.sources.items c.push.new.self.items c.loop-path-test.true (grind rules) c.in_ok-source.ensures.ok c.loop-path.invariant.read;
  held = held-more (g.F.Files.holds c.args.files.now) c.args.paths.now c.loop-path.path-index _ c.in_ok-source.source.text.items c.loop-path-test.true c.loop-path.invariant.held c.in_ok-source.ensures.ok.2;
}

pub returns-clause-ok : goal.returns-clause-ok
returns-clause-ok g c = read-all (g.F.Files.holds c.args.files.now) c.args.paths.now c.loop-path.path-index c.loop-path.sources.items c.loop-path-test.false c.loop-path.invariant.read
