use Rattle.std.proofs.Common.{◌≡◌, drop}
use Rattle.mlk_syntax.specs.ExprTrees.{sub_trees, subs_from}
use Rattle.mlk_walk_exprs.specs.Spots.{spot_of}
use Rattle.mlk_walk_commands.specs.Locks.{subs_fault}
use Rattle.mlk_walk_commands.proofs.names.subs_fault.Given as goal

abbrev pub invariant-loop-subscript : goal.invariant-loop-subscript
invariant-loop-subscript l = subs_fault ((spot_of l.spot).scope.is_shared l.state.case.own)
    (subs_from (sub_trees (drop l.subscript-index l.subscripts))) l.left
    ≡ subs_fault ((spot_of l.spot).scope.is_shared l.state.case.own) (subs_from (sub_trees l.fn.subscripts)) l.fn.symbols
