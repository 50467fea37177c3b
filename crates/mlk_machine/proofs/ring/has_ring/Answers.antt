use Rattle.std.proofs.Common.{◌∙◌}
use Rattle.mlk_machine.proofs.RingLemmas.{ring_of_jobs}
use Rattle.mlk_machine.proofs.ring.has_ring.Goals as goal

pub returns : goal.returns
returns c = c.in_ok-found.ensures ∙ ring_of_jobs c.args.jobs.now
