use Rattle.std.proofs.lemmas.Slice.Eq.{slice_eq-Decides}
use Rattle.mlk_cert_parts.proofs.inclusion.are_same_lists.Goals as goal

pub returns : goal.returns
returns g c = slice_eq-Decides c.requires _ _ _ c.are_equal.ensures
