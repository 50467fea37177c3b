use Rattle.std.proofs.Common.{◌≡◌, take, map, Some}
use Rattle.mlk_calls.proofs.call.all_given.Given as goal

abbrev pub invariant-loop-actual : goal.invariant-loop-actual
invariant-loop-actual l = l.given.items ≡ map Some (take l.actual-index l.actuals)
