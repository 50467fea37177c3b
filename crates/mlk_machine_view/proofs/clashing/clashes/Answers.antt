use Rattle.std.proofs.Common.{arith}
use Rattle.mlk_machine_view.proofs.PairLemmas.{clashes_on}
use Rattle.mlk_machine_view.proofs.clashing.clashes.Goals as goal

pub loop-place-preserved : goal.loop-place-preserved
loop-place-preserved c =
    clashes_on c.args.jobs.now c.loop-place.place c.index-jobs-place.result c.loop-place.pairs.items _ _
    (omega (arith, c.loop-place-test.true)) c.index-jobs-place.is c.split_at.ensures.back c.in_ok-add_clashes.ensures
    c.loop-place.invariant
