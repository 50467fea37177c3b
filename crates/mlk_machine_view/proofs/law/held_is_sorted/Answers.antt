use Rattle.mlk_machine_view.proofs.HeldLemmas.{held_is_sorted}
use Rattle.mlk_machine_view.proofs.law.held_is_sorted.Goals as goal

pub returns : goal.returns
returns c = held_is_sorted
