use Rattle.mlk_behind.specs.Mending.{IsPatchAt, DiffersOnlyAt}
use Rattle.mlk_behind.proofs.patch.apply.Given as goal

abbrev pub invariant-loop-offset : goal.invariant-loop-offset
invariant-loop-offset l = DiffersOnlyAt (λ k. IsPatchAt k l.patch) l.initial.text l.text
