use Rattle.std.proofs.Common.{◌≡◌, ◌-◌, drop, map}
use Rattle.mlk_syntax.specs.Views.{variable_of}
use Rattle.mlk_walk_commands.specs.Locks.{count_names}
use Rattle.mlk_walk_commands.proofs.names.count_before.Given as goal

abbrev pub invariant-loop-name : goal.invariant-loop-name
invariant-loop-name l = l.before - count_names (map variable_of (drop l.name-index l.names))
    ≡ l.fn.captured - count_names (map variable_of l.fn.names)
