use Rattle.std.proofs.Common.{ℕ, ◌<◌, ◌≡◌, Some}
use Rattle.std.specs.Prelude.{slice_get}
use Rattle.mlk_names.specs.declared.symbol.Sym.TheVariants.{Job}
use Rattle.mlk_rules.specs.declared.pattern.Element.TheVariants as element
use Rattle.mlk_rules.proofs.check.has_own_subs.Given as goal

abbrev pub invariant-loop-i : goal.invariant-loop-i
invariant-loop-i l = (k : ℕ) → k < l.i → slice_get l.elements k ≡ Some element.Job → slice_get l.symbols k ≡ Some Job
