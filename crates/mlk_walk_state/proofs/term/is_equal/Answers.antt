use Rattle.std.proofs.Common.{rules}
use Rattle.std.proofs.lemmas.Slice.Eq.{slice_eq-Decides}
use Rattle.mlk_walk_state.proofs.term.is_equal.Goals as goal

pub returns : goal.returns
returns c = search (rules, slice_eq-Decides)
