use Rattle.std.proofs.Common.{take}
use Rattle.mlk_program.specs.Tables.{AreLater}
use Rattle.mlk_program.proofs.directory.later_in_routines.Given as goal

abbrev pub invariant-loop-routine : goal.invariant-loop-routine
invariant-loop-routine l = AreLater (take l.routine-index l.routines) l.counts.items
