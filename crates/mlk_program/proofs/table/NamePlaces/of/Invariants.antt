use Rattle.std.proofs.Common.{◌++◌, drop}
use Rattle.mlk_program.specs.Tables.{SameFirst}
use Rattle.mlk_program.proofs.NameTables.{listed}
use Rattle.mlk_program.proofs.table.NamePlaces.of.Given as goal

abbrev pub invariant-loop-i : goal.invariant-loop-i
invariant-loop-i g l =
    SameFirst (l.table ++ listed g.T.Labelled.label l.i (drop l.i l.items)) (listed g.T.Labelled.label 0 l.items)
