use Rattle.std.proofs.Common.{◌∙◌, ap, map}
use Rattle.std.specs.Prelude.{option_map}
use Rattle.mlk_syntax.specs.ExprTrees.{tree_of}
use Rattle.mlk_syntax.specs.Views.{variable_of, lock_of}
use Rattle.mlk_calls.specs.Claims.{held_too}
use Rattle.mlk_walk_exprs.specs.Walks.{each, few}
use Rattle.mlk_walk_exprs.specs.Spots.{spot_of}
use Rattle.mlk_walk_exprs.specs.Expressions.{value_if}
use Rattle.mlk_walk_commands.specs.Locks.{capture_names, known_names, is_timed, lock_row, lock_argument}
use Rattle.mlk_walk_commands.proofs.Claiming.{either_way}
use Rattle.mlk_walk_commands.proofs.Steps.{carried}
use Rattle.mlk_walk_commands.proofs.locks.lock_argument.Goals as goal

pub returns : goal.returns
returns c =
    let p = spot_of c.args.spot.now in
    let l = c.args.argument.now in
    let names = map variable_of l.names.items in
    let timed = is_timed (option_map tree_of l.timeout) in
    carried c.limit_states.result c.limit_states.new.self (few p.line p.word c.apply_to_states-2.new.walk) (lock_argument p (lock_of l) c.args.walk.now) c.limit_states.ensures
    (ap (few p.line p.word) c.in_ok-apply_to_states-2.ensures
    ∙ either_way p timed names l.sign p.line p.word c.value_if.new.walk
    ∙ ap (λ w. few p.line p.word (each (lock_row held_too p l.sign timed names) w)) (c.in_ok-value_if.ensures
    ∙ ap (λ t. value_if p (option_map tree_of t) c.apply_to_states.new.walk) c.as_ref.ensures.value
    ∙ ap (λ w. value_if p (option_map tree_of l.timeout) w) (c.in_ok-apply_to_states.ensures
    ∙ ap (λ w. each (known_names p names) w) (c.in_ok-capture_names.ensures
    ∙ ap (λ ns. capture_names p (map variable_of ns) c.args.walk.now) c.as_slice-names.ensures.value))))
