-- Whether a part respects its limits and orders. For private clauses only.
use Rattle.std.specs.Prelude.{Bool, true, false}
use Rattle.mlk_cert.specs.declared.read.fit.Fit.{Fit}
use Rattle.mlk_cert.specs.declared.read.fit.Fit.TheVariants.{Yes, Limit, Order}

abbrev pub passes : Fit → Bool
passes Yes = true
passes Limit = false
passes Order = false
