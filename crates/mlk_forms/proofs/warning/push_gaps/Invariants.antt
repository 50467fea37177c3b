use Rattle.std.proofs.Common.{◌≡◌, ◌++◌, drop}
use Rattle.mlk_forms.specs.Rendering.{gap_lines}
use Rattle.mlk_forms.proofs.warning.push_gaps.Given as goal

abbrev pub invariant-loop-gap : goal.invariant-loop-gap
invariant-loop-gap l = l.text ++ gap_lines (drop l.gap-index l.gaps) ≡ l.fn.text ++ gap_lines l.gaps
