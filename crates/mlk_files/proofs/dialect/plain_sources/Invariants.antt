use Rattle.std.proofs.Common.{◌≡◌, ◌+◌, ◌++◌, ◌≤◌, List, drop}
use Rattle.std.specs.Prelude.{min}
use Rattle.mlk_reading.specs.declared.source.Source.{Source}
use Rattle.mlk_files.specs.Dialects.{ArePlain, inert_of}
use Rattle.mlk_files.proofs.dialect.plain_sources.Given as goal

abbrev pub invariant-loop-source : goal.invariant-loop-source
invariant-loop-source l = record {
  plain : (more : List Source) → ArePlain (drop l.source-index l.sources) more → ArePlain l.sources (l.plain.items ++ more);
  inert : min (l.inert + inert_of (drop l.source-index l.sources)) 18446744073709551615 ≡ min (inert_of l.sources) 18446744073709551615;
  fits : l.inert ≤ 18446744073709551615;
}
