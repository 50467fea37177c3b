use Rattle.std.proofs.Common.{◌≡◌, drop}
use Rattle.mlk_cert_parts.specs.Checks.{ascend_inside_own}
use Rattle.mlk_cert_parts.proofs.read.ascend_inside_own.Given as goal

abbrev pub invariant-loop-item : goal.invariant-loop-item
invariant-loop-item l = ascend_inside_own (drop l.item-index l.own) ≡ ascend_inside_own l.own
