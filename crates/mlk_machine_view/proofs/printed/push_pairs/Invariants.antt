use Rattle.std.proofs.Common.{◌≡◌, ◌++◌, drop}
use Rattle.mlk_cert_lexemes.specs.Lists.{flat}
use Rattle.mlk_machine_view.specs.Printed.{pair_line}
use Rattle.mlk_machine_view.proofs.printed.push_pairs.Given as goal

abbrev pub invariant-loop-pair : goal.invariant-loop-pair
invariant-loop-pair l = l.text ++ flat (pair_line l.word) (drop l.pair-index l.pairs) ≡ l.fn.text ++ flat (pair_line l.word) l.pairs
