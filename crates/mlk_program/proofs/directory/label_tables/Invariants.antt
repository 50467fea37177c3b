use Rattle.std.proofs.Common.{take}
use Rattle.mlk_program.specs.Tables.{AreTables}
use Rattle.mlk_program.proofs.directory.label_tables.Given as goal

abbrev pub invariant-loop-routine : goal.invariant-loop-routine
invariant-loop-routine l = AreTables (take l.routine-index l.routines) l.tables.items
