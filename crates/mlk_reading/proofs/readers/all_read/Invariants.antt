use Rattle.std.proofs.Common.{◌≡◌, ◌++◌, Ok, length}
use Rattle.std.specs.Prelude.{map}
use Rattle.mlk_reading.proofs.readers.all_read.Given as goal

abbrev pub invariant-loop-answer : goal.invariant-loop-answer
invariant-loop-answer l = l.fn.answers.items ≡ map Ok l.routines.items ++ l.left.rest.items

abbrev pub decreases-loop-answer : goal.decreases-loop-answer
decreases-loop-answer l = length l.left.rest.items
