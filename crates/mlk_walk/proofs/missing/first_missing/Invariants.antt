use Rattle.std.proofs.Common.{◌≡◌, length, map}
use Rattle.std.specs.Prelude.{find}
use Rattle.mlk_syntax.specs.Views.{routine_of}
use Rattle.mlk_walk.specs.Reports.{is_missing}
use Rattle.mlk_walk.proofs.missing.first_missing.Given as goal

abbrev pub invariant-loop-text : goal.invariant-loop-text
invariant-loop-text l = find (is_missing (map routine_of l.program)) l.left ≡ find (is_missing (map routine_of l.program)) l.texts

abbrev pub decreases-loop-text : goal.decreases-loop-text
decreases-loop-text l = length l.left
