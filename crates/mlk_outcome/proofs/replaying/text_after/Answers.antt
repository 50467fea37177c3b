use Rattle.std.proofs.Common.{refl, rules}
use Rattle.mlk_outcome.specs.Replaying.{IsStopped}
use Rattle.mlk_outcome.specs.Refusals.{refusal_of_events}
use Rattle.mlk_outcome.proofs.replaying.text_after.Goals as goal

pub returns-in_err-system-clause-refused : goal.returns-in_err-system-clause-refused
returns-in_err-system-clause-refused c =
    let e = c.in_err-system.field-0.0 in
    let stopped : IsStopped c.args.program.now c.args.entries.now c.args.events.now (refusal_of_events e) = (e, c.in_err-system.ensures, refl) in
    grind rules

pub returns-clause-ok : goal.returns-clause-ok
returns-clause-ok c = (c.in_ok-system.system, c.in_ok-system.ensures, c.in_ok-text.ensures)
