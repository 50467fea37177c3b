use Rattle.std.proofs.Common.{◌≡◌, ◌++◌, drop}
use Rattle.mlk_cert_lexemes.specs.Lists.{flat}
use Rattle.mlk_cert_lexemes.proofs.written.push_flat.Given as goal

abbrev pub invariant-loop-item : goal.invariant-loop-item
invariant-loop-item g l = l.text ++ flat g.T.Written.written (drop l.item-index l.items) ≡ l.fn.text ++ flat g.T.Written.written l.items
