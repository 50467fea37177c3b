-- Copies of sets of names are equal to them.
use Rattle.std.proofs.Common.{◌≡◌, ap}
use Rattle.std.specs.List.{each_same}
use Rattle.mlk_cert_parts.specs.declared.names.NameSet.{NameSet}
use Rattle.mlk_cert_parts.specs.declared.names.NameSet.TheVariants as set
use Rattle.mlk_cert_parts.specs.contracts.names.NameSetClone.TheImpl as clone

pub copied : (x y : NameSet) → clone.by_variants x y → y ≡ x
copied (set.Only a) (set.Only b) h = let e : b ≡ a = h in ap set.Only e
copied (set.Only a) (set.AllBut b) h = absurd h
copied (set.AllBut a) (set.Only b) h = absurd h
copied (set.AllBut a) (set.AllBut b) (x, y, p, q, r) = let e = each_same x.items.items y.items.items r.0 in let f : b ≡ a = cc in ap set.AllBut f
