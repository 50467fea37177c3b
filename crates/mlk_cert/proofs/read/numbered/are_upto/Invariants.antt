use Rattle.std.proofs.Common.{◌≡◌, drop}
use Rattle.mlk_cert.specs.Numbered.{are_upto}
use Rattle.mlk_cert.proofs.read.numbered.are_upto.Given as goal

abbrev pub invariant-loop-number : goal.invariant-loop-number
invariant-loop-number l = are_upto l.most (drop l.number-index l.numbers) ≡ are_upto l.most l.numbers
