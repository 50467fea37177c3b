use Rattle.std.proofs.Common.{List, ℕ}
use Rattle.mlk_rules.specs.declared.cover.Cover.{Cover}
use Rattle.mlk_rules.specs.Groups.{AreGroups, HasGroup}
use Rattle.mlk_rules.proofs.CheckLemmas.{AllBefore}
use Rattle.mlk_rules.proofs.groups.add_covers.Given as goal

abbrev pub invariant-loop-cover : goal.invariant-loop-cover
invariant-loop-cover l =
    record {
      are : AreGroups l.rules l.fn.groups → AreGroups l.rules l.groups;
      has : AllBefore (λ (c : Cover). HasGroup l.groups c.pattern.global) l.covers l.cover-index;
      keeps : (other : List ℕ) → HasGroup l.fn.groups other → HasGroup l.groups other;
    }
