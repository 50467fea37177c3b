use Rattle.std.proofs.Common.{◌≡◌, drop, map}
use Rattle.mlk_syntax.specs.Views.{variable_of}
use Rattle.mlk_walk_exprs.specs.Spots.{spot_of}
use Rattle.mlk_walk_commands.specs.Locks.{give_back}
use Rattle.mlk_walk_commands.proofs.locks.give_back.Given as goal

abbrev pub invariant-loop-name : goal.invariant-loop-name
invariant-loop-name l = (give_back (spot_of l.spot) (map variable_of (drop l.name-index l.names)) l.left l.state
    ≡ give_back (spot_of l.spot) (map variable_of l.fn.names) l.fn.terms l.fn.state) × (l.walk ≡ l.fn.walk)
