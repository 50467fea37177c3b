use Rattle.std.proofs.Common.{◌-◌, ◌*◌, ◌+◌}
use Rattle.mlk_routine.proofs.commands.+commanding.Given as goal

abbrev pub decreases-with_loop : goal.decreases-with_loop
decreases-with_loop l = 2 * (255 - l.inside.loops)

abbrev pub decreases-commands : goal.decreases-commands
decreases-commands l = 2 * (255 - l.inside.loops) + 1
