use Rattle.std.proofs.Common.{◌≡◌, drop}
use Rattle.mlk_cert_parts.specs.Checks.{ascend_inside}
use Rattle.mlk_cert_parts.proofs.read.ascend_inside.Given as goal

abbrev pub invariant-loop-names : goal.invariant-loop-names
invariant-loop-names l = ascend_inside (drop l.names-index l.sets) ≡ ascend_inside l.sets
