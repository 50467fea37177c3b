use Rattle.std.proofs.Common.{◌≡◌, false, drop, replicate}
use Rattle.mlk_cert.specs.Named.{marked}
use Rattle.mlk_cert.proofs.read.unnamed.marks.Given as goal

abbrev pub invariant-loop-number : goal.invariant-loop-number
invariant-loop-number l = marked l.marks.items (drop l.number-index l.numbers) ≡ marked (replicate l.count false) l.numbers
