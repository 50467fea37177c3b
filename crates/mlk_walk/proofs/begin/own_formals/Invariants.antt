use Rattle.std.proofs.Common.{◌≡◌, take, map}
use Rattle.mlk_walk.specs.Verdicts.{own_formal}
use Rattle.mlk_walk.proofs.begin.own_formals.Given as goal

abbrev pub invariant-loop-name : goal.invariant-loop-name
invariant-loop-name l = l.own.items ≡ map own_formal (take l.name-index l.names)
