use Rattle.std.proofs.Common.{◌∙◌, ap}
use Rattle.std.specs.Prelude.{option_map, option_copied}
use Rattle.mlk_syntax.specs.ExprTrees.{tree_of}
use Rattle.mlk_syntax.specs.Views.{variable_of}
use Rattle.mlk_walk_exprs.specs.Walks.{each}
use Rattle.mlk_walk_exprs.specs.Spots.{spot_of}
use Rattle.mlk_walk_exprs.specs.Expressions.{value_if}
use Rattle.mlk_walk_commands.specs.Arguments.{in_time_or_not, read_row, read_variable}
use Rattle.mlk_walk_commands.proofs.Steps.{carried}
use Rattle.mlk_walk_commands.proofs.reading.read_variable.Goals as goal

pub returns : goal.returns
returns c =
    let p = spot_of c.args.spot.now in
    let v = variable_of c.args.variable.now in
    let most = option_map tree_of (option_copied c.args.most) in
    let timeout = option_map tree_of (option_copied c.args.timeout) in
    carried c.apply_to_states-2.result c.apply_to_states-2.new.walk (each (in_time_or_not timeout) c.apply_to_states.new.walk) (read_variable p v most timeout c.args.walk.now)
    c.apply_to_states-2.ensures
    (ap (λ w. each (in_time_or_not timeout) w) (c.in_ok-apply_to_states.ensures
    ∙ ap (λ w. each (read_row p v) w) (c.in_ok-value_if-2.ensures
    ∙ ap (λ w. value_if p timeout w) (c.in_ok-value_if.ensures
    ∙ ap (λ w. value_if p most w) c.in_ok-capture_variable.ensures))))
