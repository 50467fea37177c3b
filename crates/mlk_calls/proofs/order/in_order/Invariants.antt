use Rattle.std.proofs.Common.{◌≡◌, ◌++◌, map}
use Rattle.mlk_calls.specs.Order.{in_order}
use Rattle.mlk_calls.proofs.order.in_order.Given as goal

abbrev pub invariant-loop-bytes : goal.invariant-loop-bytes
invariant-loop-bytes l = l.found ++ map (λ k. k.items) l.bytes-iterator ≡ in_order l.names
