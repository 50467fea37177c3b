use Rattle.std.proofs.Common.{◌≡◌, length, map}
use Rattle.std.specs.Prelude.{find}
use Rattle.mlk_syntax.specs.Views.{routine_of}
use Rattle.mlk_walk.specs.Reports.{is_missing, block_text}
use Rattle.mlk_walk.proofs.missing.first_missing_block.Given as goal

abbrev pub invariant-loop-block : goal.invariant-loop-block
invariant-loop-block l = find (is_missing (map routine_of l.program)) (map block_text l.left) ≡ find (is_missing (map routine_of l.program)) (map block_text l.blocks)

abbrev pub decreases-loop-block : goal.decreases-loop-block
decreases-loop-block l = length l.left
