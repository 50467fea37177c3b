use Rattle.mlk_behind.specs.Mending.{IsPatched, DiffersOnlyAt}
use Rattle.mlk_behind.proofs.patch.apply_all.Given as goal

abbrev pub invariant-loop-patch : goal.invariant-loop-patch
invariant-loop-patch l = DiffersOnlyAt (IsPatched l.patches l.routine) l.initial.text l.text
