-- The targets of SET, one after another.
use Rattle.std.proofs.Common.{◌≡◌, ◌<◌, ◌+◌, ℕ, List, length, drop, map, slice_index_or, ap, sym, ◌∙◌}
use Rattle.mlk_syntax.specs.declared.command.Target.{Target}
use Rattle.mlk_syntax.specs.Views.{target_of}
use Rattle.mlk_rules.proofs.CheckLemmas.{drop_step}
use Rattle.mlk_walk_exprs.specs.declared.walk.Walk.{Walk}
use Rattle.mlk_walk_exprs.specs.Spots.{Spot}
use Rattle.mlk_walk_exprs.specs.Expressions.{values}
use Rattle.mlk_walk_commands.specs.Arguments.{variable_in, arguments_in, capture_targets}
use Rattle.mlk_walk_commands.specs.Variables.{capture_variable}

-- one iteration of the loop over them
pub target_turn : (p : Spot) (targets : List Target) (i : ℕ) (t : Target) (w captured valued whole : Walk)
    → i < length targets → t ≡ slice_index_or targets i t
    → captured ≡ capture_variable p (variable_in (target_of t)) w → valued ≡ values p (arguments_in (target_of t)) captured
    → capture_targets p (map target_of (drop i targets)) w ≡ whole
    → capture_targets p (map target_of (drop (i + 1) targets)) valued ≡ whole
target_turn p targets i t w captured valued whole low at c v before =
    ap (λ x. capture_targets p (map target_of (drop (i + 1) targets)) x) (v ∙ ap (values p (arguments_in (target_of t))) c)
    ∙ ap (λ ts. capture_targets p (map target_of ts) w) (sym (drop_step targets i t low at))
    ∙ before
