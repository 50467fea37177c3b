use Rattle.std.proofs.Common.{◌∙◌, ◌+◌, ap, rules, subst}
use Rattle.std.specs.Prelude.{min}
use Rattle.mlk_reading.specs.declared.source.Source.{Source}
use Rattle.mlk_dialect.specs.Plain.{inert}
use Rattle.mlk_files.specs.Dialects.{IsPlain}
use Rattle.mlk_files.proofs.Dialects.{plain-more, plain-all, inert-more, inert-all}
use Rattle.mlk_files.proofs.dialect.plain_sources.Goals as goal

pub loop-source-preserved : goal.loop-source-preserved
loop-source-preserved c =
    let read = subst (λ s. IsPlain s c.in_ok-read.read.source) c.source-item.is c.in_ok-read.ensures.plain in
    let here = c.in_ok-read.ensures.inert ∙ ap (λ (s : Source). inert s.text.items) c.source-item.is in
    let more = c.saturating_add-inert.ensures ∙ ap (λ n. min (c.loop-source.inert + n) 18446744073709551615) here in
    record {
      plain = plain-more c.args.sources.now c.loop-source.source-index _ c.in_ok-read.read.source c.loop-source.plain.items c.push.new.self.items c.loop-source-test.true (grind rules) read c.loop-source.invariant.plain;
      inert = inert-more c.args.sources.now c.loop-source.source-index _ c.loop-source.inert c.saturating_add-inert.result c.loop-source-test.true more c.loop-source.invariant.inert;
      fits = grind rules;
    }

pub returns-clause-sources : goal.returns-clause-sources
returns-clause-sources c = plain-all c.args.sources.now c.loop-source.source-index c.loop-source.plain.items c.loop-source-test.false c.loop-source.invariant.plain

pub returns-clause-inert : goal.returns-clause-inert
returns-clause-inert c = inert-all c.args.sources.now c.loop-source.source-index c.loop-source.inert c.loop-source-test.false c.loop-source.invariant.inert c.loop-source.invariant.fits
