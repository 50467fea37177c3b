use Rattle.std.proofs.Common.{arith}
use Rattle.mlk_machine_view.proofs.KnownLemmas.{joined_so, too_long}
use Rattle.mlk_machine_view.proofs.known.is_joined.Goals as goal

pub returns-then-first-le-LONGEST_JOIN : goal.returns-then-first-le-LONGEST_JOIN
returns-then-first-le-LONGEST_JOIN c =
    joined_so c.args.first.now c.args.second.now _ _ c.as_bytes-first.ensures c.as_bytes-second.ensures

pub returns-else-first-le-LONGEST_JOIN : goal.returns-else-first-le-LONGEST_JOIN
returns-else-first-le-LONGEST_JOIN c =
    too_long c.args.first.now c.args.second.now _ c.as_bytes-first.ensures
    (omega (arith, c.if-first-le-LONGEST_JOIN.false))
