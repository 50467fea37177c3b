use Rattle.std.proofs.Common.{sym}
use Rattle.mlk_syntax.proofs.Variants.{tree_lit, tree_free}
use Rattle.mlk_expr.proofs.part.number_of.Goals as goal

pub returns-in-Some : goal.returns-in-Some
returns-in-Some c = rw (sym c.in_ok-value.ensures.same, c.in-Some.is) (tree_lit c.in-Some.value)

pub returns-in-None : goal.returns-in-None
returns-in-None c = rw (sym c.in_ok-value.ensures.same, c.in-None.is) tree_free
