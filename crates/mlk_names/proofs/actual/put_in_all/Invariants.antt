use Rattle.std.proofs.Common.{◌≡◌, take}
use Rattle.std.specs.Prelude.{map}
use Rattle.mlk_names.specs.Symbols.{sym_of}
use Rattle.mlk_names.specs.Actuals.{put_in}
use Rattle.mlk_names.proofs.actual.put_in_all.Given as goal

abbrev pub invariant-loop-symbol : goal.invariant-loop-symbol
invariant-loop-symbol l = map sym_of l.found ≡ map (put_in l.formals l.actuals) (take l.symbol-index l.symbols)
