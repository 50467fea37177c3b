use Rattle.std.proofs.Common.{◌≡◌, take}
use Rattle.mlk_program.specs.Entries.{entry_count}
use Rattle.mlk_program.specs.Program.{AreTooMany}
use Rattle.mlk_program.specs.Tables.{trees}
use Rattle.mlk_program.proofs.linking.check_limits.Given as goal

abbrev pub invariant-loop-i : goal.invariant-loop-i
invariant-loop-i l = (AreTooMany (trees (take l.i l.routines)) → ⊥) × (l.entries ≡ entry_count (trees (take l.i l.routines)))
