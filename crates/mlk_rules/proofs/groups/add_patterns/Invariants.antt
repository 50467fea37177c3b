use Rattle.std.proofs.Common.{List, ℕ}
use Rattle.mlk_rules.specs.declared.pattern.Pattern.{Pattern}
use Rattle.mlk_rules.specs.Groups.{AreGroups, HasGroup}
use Rattle.mlk_rules.proofs.CheckLemmas.{AllBefore}
use Rattle.mlk_rules.proofs.groups.add_patterns.Given as goal

abbrev pub invariant-loop-pattern : goal.invariant-loop-pattern
invariant-loop-pattern l =
    record {
      are : AreGroups l.rules l.fn.groups → AreGroups l.rules l.groups;
      has : AllBefore (λ (c : Pattern). HasGroup l.groups c.global) l.patterns l.pattern-index;
      keeps : (other : List ℕ) → HasGroup l.fn.groups other → HasGroup l.groups other;
    }
