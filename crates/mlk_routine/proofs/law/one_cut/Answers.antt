use Rattle.std.proofs.Common.{sym, ◌∙◌}
use Rattle.mlk_routine.proofs.Cutting.{cut_only}
use Rattle.mlk_routine.proofs.law.one_cut.Goals as goal

pub returns : goal.returns
returns c lines others text f g = cut_only lines text f ∙ sym (cut_only others text g)
