use Rattle.std.proofs.Common.{◌≡◌, ◌++◌, map}
use Rattle.mlk_syntax.specs.Views.{new_of}
use Rattle.mlk_routine_arguments.specs.Kinds.{newed_of}
use Rattle.mlk_routine_arguments.specs.CommandGrammar.{locals_of}
use Rattle.mlk_routine.proofs.command.locals.Given as goal

abbrev pub invariant-loop-item : goal.invariant-loop-item
invariant-loop-item l =
    map new_of l.locals.items ++ locals_of (map newed_of l.item-iterator.rest.items) ≡ locals_of (map newed_of l.fn.items.items)
