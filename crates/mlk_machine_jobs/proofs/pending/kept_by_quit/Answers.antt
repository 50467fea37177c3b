use Rattle.std.proofs.Common.{length, refl, sym, ◌∙◌, arith}
use Rattle.mlk_machine_jobs.proofs.PendingLemmas.{end_quit}
use Rattle.mlk_machine_jobs.proofs.pending.kept_by_quit.Goals as goal

pub returns-clause-kept : goal.returns-clause-kept
returns-clause-kept c = λ binders.
    c.kept_to_end.ensures.kept binders
    ∙ end_quit binders c.args.pending.now (length c.args.pending.now) c.index-pending-count.result refl
    (omega (arith, c.if-count-eq0.false)) c.index-pending-count.is
    (sym (c.is_round.ensures binders) ∙ c.if-is_round.false)
