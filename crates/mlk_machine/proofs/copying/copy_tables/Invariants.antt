use Rattle.std.proofs.Common.{◌≡◌, map, take}
use Rattle.mlk_machine.specs.Copies.{values_in}
use Rattle.mlk_machine.proofs.copying.copy_tables.Given as goal

abbrev pub invariant-loop-table : goal.invariant-loop-table
invariant-loop-table l = map values_in l.copies.items ≡ map values_in (take l.table-index l.tables)
