use Rattle.std.proofs.Common.{◌≡◌, ◌++◌, drop}
use Rattle.mlk_cert.specs.Named.{texts_in}
use Rattle.mlk_cert.specs.Second.{numbers_of}
use Rattle.mlk_cert.proofs.table.numbers_of.Given as goal

abbrev pub invariant-loop-case : goal.invariant-loop-case
invariant-loop-case l = l.found.items ++ numbers_of (texts_in l.texts.keys) (drop l.case-index l.cases) ≡ numbers_of (texts_in l.texts.keys) l.cases
