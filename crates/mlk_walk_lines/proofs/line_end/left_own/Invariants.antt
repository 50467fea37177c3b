use Rattle.std.proofs.Common.{◌≡◌, take}
use Rattle.std.specs.Prelude.{filter}
use Rattle.mlk_walk_lines.specs.Endings.{is_left}
use Rattle.mlk_walk_lines.proofs.line_end.left_own.Given as goal

abbrev pub invariant-loop-item : goal.invariant-loop-item
invariant-loop-item l = l.left.items ≡ filter (is_left l.level) (take l.item-index l.own)
