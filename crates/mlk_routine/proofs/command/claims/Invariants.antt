use Rattle.std.proofs.Common.{◌≡◌, ◌++◌, [], map, Some}
use Rattle.mlk_syntax.specs.ExprTrees.{tree_of}
use Rattle.mlk_syntax.specs.declared.command.Sign.TheVariants as sign
use Rattle.mlk_syntax.specs.Trees.{LockNames}
use Rattle.mlk_syntax.specs.Views.{lock_of}
use Rattle.mlk_routine.proofs.command.claims.Given as goal

abbrev pub invariant-loop-name : goal.invariant-loop-name
invariant-loop-name l =
    map lock_of l.claims.items ++ map (λ name. LockNames sign.Plus [] (Some (tree_of name))) l.name-iterator.rest.items
    ≡ map (λ name. LockNames sign.Plus [] (Some (tree_of name))) l.fn.names.items
