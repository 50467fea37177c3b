use Rattle.std.proofs.Common.{◌≡◌, take}
use Rattle.std.specs.Prelude.{filter}
use Rattle.mlk_cert_parts.specs.Limits.{own_below}
use Rattle.mlk_walk_commands.proofs.order.own_after.Given as goal

abbrev pub invariant-loop-other : goal.invariant-loop-other
invariant-loop-other l = l.found ≡ filter (own_below l.item) (take l.other-index l.own)
