use Rattle.std.proofs.Common.{rules}
use Rattle.std.proofs.lemmas.Slice.Eq.{slice_eq-Decides}
use Rattle.mlk_cert_parts.proofs.inclusion.is_included.Goals as goal

pub are_same_lists-requires : goal.are_same_lists-requires
are_same_lists-requires c = search (rules, slice_eq-Decides)

pub are_same_lists-requires-then-are_same_lists : goal.are_same_lists-requires-then-are_same_lists
are_same_lists-requires-then-are_same_lists c = search (rules, slice_eq-Decides)
