use Rattle.std.proofs.Common.{◌↔◌, length}
use Rattle.std.specs.Prelude.{map}
use Rattle.mlk_names.specs.declared.known_symbol.KnownSym.TheVariants.{Const}
use Rattle.mlk_names.specs.Lists.{Begins}
use Rattle.mlk_rules.proofs.rank.begin_with.Given as goal

abbrev pub invariant-loop-value : goal.invariant-loop-value
invariant-loop-value l = Begins (map Const l.values) l.symbols ↔ Begins (map Const l.fn.values) l.fn.symbols

abbrev pub decreases-loop-value : goal.decreases-loop-value
decreases-loop-value l = length l.values
