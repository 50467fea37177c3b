use Rattle.std.proofs.Common.{◌≡◌, take}
use Rattle.std.specs.Prelude.{filter}
use Rattle.mlk_walk_commands.specs.Order.{is_before}
use Rattle.mlk_walk_commands.proofs.order.own_before.Given as goal

abbrev pub invariant-loop-other : goal.invariant-loop-other
invariant-loop-other l = l.found ≡ filter (is_before l.item) (take l.other-index l.own)
