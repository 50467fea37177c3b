use Rattle.std.proofs.Common.{rules}
use Rattle.std.proofs.lemmas.Slice.Eq.{slice_eq-Decides}
use Rattle.mlk_walk_state.proofs.names.is_equal_own.Goals as goal

pub returns : goal.returns
returns c = search (rules, slice_eq-Decides)
