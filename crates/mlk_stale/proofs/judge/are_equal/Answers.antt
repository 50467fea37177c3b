use Rattle.std.proofs.lemmas.Slice.Eq.{slice_eq-Decides}
use Rattle.mlk_stale.proofs.judge.are_equal.Goals as goal

pub returns : goal.returns
returns g c = slice_eq-Decides c.requires _ _ _ c.eq.ensures
