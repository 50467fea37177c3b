use Rattle.std.proofs.Common.{◌≡◌, ◌∷◌, drop}
use Rattle.mlk_cert_lexemes.specs.Lists.{ascends, below}
use Rattle.mlk_cert_parts.proofs.read.names_ascend.Given as goal

abbrev pub invariant-loop-name : goal.invariant-loop-name
invariant-loop-name l = ascends below (l.last ∷ drop l.name-index l.others) ≡ ascends below l.names
