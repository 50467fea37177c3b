use Rattle.std.proofs.Common.{◌≡◌, drop, map}
use Rattle.mlk_calls.specs.Order.{in_order, put_names}
use Rattle.mlk_calls.proofs.order.sorted_names.Given as goal

abbrev pub invariant-loop-name : goal.invariant-loop-name
invariant-loop-name l = put_names (map (λ k. k.items) l.found.keys) (drop l.name-index l.names) ≡ in_order l.fn.names
