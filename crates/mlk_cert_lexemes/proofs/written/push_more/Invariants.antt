use Rattle.std.proofs.Common.{◌≡◌, ◌++◌, drop}
use Rattle.mlk_cert_lexemes.specs.Lists.{more}
use Rattle.mlk_cert_lexemes.proofs.written.push_more.Given as goal

abbrev pub invariant-loop-item : goal.invariant-loop-item
invariant-loop-item g l = l.text ++ more l.between g.T.Written.written (drop l.item-index l.items) ≡ l.fn.text ++ more l.between g.T.Written.written l.items
