use Rattle.std.proofs.Common.{◌↔◌, length}
use Rattle.mlk_cert_lexemes.specs.Lists.{EachPair}
use Rattle.mlk_cert_parts.specs.Inclusion.{Covers}
use Rattle.mlk_cert_parts.proofs.inclusion.cover_all.Given as goal

abbrev pub invariant-loop-s : goal.invariant-loop-s
invariant-loop-s l = EachPair Covers l.firsts l.seconds ↔ EachPair Covers l.fn.first l.fn.second

abbrev pub decreases-loop-s : goal.decreases-loop-s
decreases-loop-s l = length l.firsts
