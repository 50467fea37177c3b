use Rattle.std.proofs.Common.{length, refl, subst}
use Rattle.std.proofs.lemmas.Option.{slice_get_read}
use Rattle.mlk_machine_locks.specs.Tables.{AreAgainst}
use Rattle.mlk_machine_locks.proofs.TableLemmas.{waits_from}
use Rattle.mlk_machine_locks.proofs.ring.stop_at.Goals as goal

pub returns-clause-stop : goal.returns-clause-stop
returns-clause-stop g c = record {
  job = c.index-jobs-place.result;
  is_at = slice_get_read c.args.jobs.now (length c.args.jobs.now) c.args.place c.index-jobs-place.result refl c.requires.within
      c.index-jobs-place.is;
  left = waits_from g.J.Seen.seen c.args.jobs.now c.args.table.now c.index-jobs-place.result c.in_ok-left.left.items
      c.requires.covers
      (subst (λ ns. AreAgainst c.args.table.now ns c.in_ok-left.left.items) c.awaited_names.ensures c.in_ok-left.ensures);
}
