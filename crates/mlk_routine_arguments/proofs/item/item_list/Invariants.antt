use Rattle.std.proofs.Common.{map, length, ◌-◌}
use Rattle.mlk_routine_arguments.proofs.Lists.{SoFar}
use Rattle.mlk_routine_arguments.proofs.item.item_list.Given as goal

abbrev pub invariant-loop-alloc : goal.invariant-loop-alloc
invariant-loop-alloc g l = SoFar (g.T.Item.is l.dialect) g.T.Item.ends g.T.Item.stop l.line l.at (map g.T.Item.seen l.items.items) l.next

abbrev pub decreases-loop-alloc : goal.decreases-loop-alloc
decreases-loop-alloc g l = length l.line - l.next
