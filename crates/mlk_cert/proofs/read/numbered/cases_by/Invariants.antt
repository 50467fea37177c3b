use Rattle.std.proofs.Common.{◌≡◌, ◌++◌, drop}
use Rattle.mlk_cert.specs.Numbered.{cases_by}
use Rattle.mlk_cert.proofs.read.numbered.cases_by.Given as goal

abbrev pub invariant-loop-number : goal.invariant-loop-number
invariant-loop-number l = l.found.items ++ cases_by l.cases (drop l.number-index l.numbers) ≡ cases_by l.cases l.numbers
