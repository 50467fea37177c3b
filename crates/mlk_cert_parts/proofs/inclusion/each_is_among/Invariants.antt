use Rattle.std.proofs.Common.{◌↔◌, length, Contains}
use Rattle.mlk_cert_lexemes.specs.Lists.{Each}
use Rattle.mlk_cert_parts.proofs.inclusion.each_is_among.Given as goal

abbrev pub invariant-loop-name : goal.invariant-loop-name
invariant-loop-name l = Each (Contains l.fn.all) l.left ↔ Each (Contains l.fn.all) l.fn.names

abbrev pub decreases-loop-name : goal.decreases-loop-name
decreases-loop-name l = length l.left
