use Rattle.std.proofs.Common.{◌≡◌, ◌++◌, drop}
use Rattle.std.specs.Prelude.{map}
use Rattle.mlk_rules.specs.Coverage.{before_missing, symbol_at}
use Rattle.mlk_rules.proofs.lacking.cut_subs.Given as goal

abbrev pub invariant-loop-part : goal.invariant-loop-part
invariant-loop-part l = l.items.items ++ before_missing (map (symbol_at l.symbols) (drop l.part-index l.parts)) ≡ before_missing (map (symbol_at l.symbols) l.parts)
