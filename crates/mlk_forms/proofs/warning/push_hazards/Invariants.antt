use Rattle.std.proofs.Common.{◌≡◌, ◌++◌, drop}
use Rattle.mlk_forms.specs.Rendering.{hazard_lines}
use Rattle.mlk_forms.proofs.warning.push_hazards.Given as goal

abbrev pub invariant-loop-hazard : goal.invariant-loop-hazard
invariant-loop-hazard l = l.text ++ hazard_lines (drop l.hazard-index l.hazards) ≡ l.fn.text ++ hazard_lines l.hazards
