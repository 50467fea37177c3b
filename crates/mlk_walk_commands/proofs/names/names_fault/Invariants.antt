use Rattle.std.proofs.Common.{◌≡◌, drop, map}
use Rattle.mlk_syntax.specs.Views.{variable_of}
use Rattle.mlk_walk_exprs.specs.Spots.{spot_of}
use Rattle.mlk_walk_commands.specs.Locks.{names_fault}
use Rattle.mlk_walk_commands.proofs.names.names_fault.Given as goal

abbrev pub invariant-loop-name : goal.invariant-loop-name
invariant-loop-name l = names_fault ((spot_of l.spot).scope.is_shared l.state.case.own)
    (map variable_of (drop l.name-index l.names)) l.left
    ≡ names_fault ((spot_of l.spot).scope.is_shared l.state.case.own) (map variable_of l.fn.names) l.fn.symbols
