use Rattle.std.proofs.Common.{arith, length, refl}
use Rattle.std.proofs.lemmas.Option.{slice_get_read}
use Rattle.mlk_machine_locks.proofs.TableLemmas.{covers_more}
use Rattle.mlk_machine_locks.proofs.ring.table_of.Goals as goal

pub loop-place-preserved : goal.loop-place-preserved
loop-place-preserved g c =
    covers_more g.J.Seen.seen c.args.jobs.now c.loop-place.table c.list_waiting.new.table c.loop-place.place
    c.index-jobs-place.result c.loop-place.invariant c.list_waiting.ensures.kept
    (slice_get_read c.args.jobs.now (length c.args.jobs.now) c.loop-place.place c.index-jobs-place.result refl
    c.loop-place-test.true c.index-jobs-place.is)
    c.in_ok-list_waiting.ensures.found

pub returns : goal.returns
returns g c = λ i x l e. c.loop-place.invariant i x (omega (arith, l, c.loop-place-test.false)) e
