use Rattle.std.proofs.Common.{map, length, ◌-◌}
use Rattle.mlk_syntax.specs.Views.{command_of}
use Rattle.mlk_routine.specs.Leading.{LeadsTo}
use Rattle.mlk_routine.proofs.commands.before_for.Given as goal

abbrev pub invariant-loop-alloc : goal.invariant-loop-alloc
invariant-loop-alloc l = LeadsTo l.inside.dialect l.inside.level l.inside.loops l.line l.at (map command_of l.before.items) l.next

abbrev pub decreases-loop-alloc : goal.decreases-loop-alloc
decreases-loop-alloc l = length l.line - l.next
