use Rattle.std.proofs.Common.{◌≡◌, drop, map}
use Rattle.std.specs.Prelude.{fold}
use Rattle.mlk_syntax.specs.Views.{command_of}
use Rattle.mlk_walk_exprs.specs.Spots.{spot_of}
use Rattle.mlk_walk_lines.specs.Loops.{one_command}
use Rattle.mlk_walk_lines.proofs.control.apply_before_for.Given as goal

abbrev pub invariant-loop-command : goal.invariant-loop-command
invariant-loop-command l =
    fold (one_command (spot_of l.spot)) l.walk (map command_of (drop l.command-index l.given))
    ≡ fold (one_command (spot_of l.spot)) l.fn.walk (map command_of l.fn.given)
