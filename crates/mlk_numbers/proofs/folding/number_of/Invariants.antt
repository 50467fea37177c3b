use Rattle.std.proofs.Common.{◌≡◌, take}
use Rattle.mlk_numbers.specs.Numbers.{number_of_digits}
use Rattle.mlk_numbers.proofs.folding.number_of.Given as goal

abbrev pub invariant-loop-digit : goal.invariant-loop-digit
invariant-loop-digit l = l.number ≡ number_of_digits (take l.digit-index l.digits)
