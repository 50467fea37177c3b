use Rattle.std.proofs.Common.{ap}
use Rattle.mlk_syntax.specs.ExprTrees.{tree_of}
use Rattle.mlk_syntax.specs.Views.{parameter_of}
use Rattle.mlk_walk_exprs.specs.Spots.{spot_of}
use Rattle.mlk_walk_lines.specs.Loops.{rounds_of, parameter}
use Rattle.mlk_walk_lines.proofs.Opened.{carried}
use Rattle.mlk_walk_lines.proofs.Turns.{once_done, endless_done, limited_done}
use Rattle.mlk_walk_lines.proofs.rounds.walk_parameter.Goals as goal

pub returns-in_ok-begin_rounds-in-Once : goal.returns-in_ok-begin_rounds-in-Once
returns-in_ok-begin_rounds-in-Once c =
    let p = spot_of c.args.spot.now in
    let q = rounds_of c.args.rounds.now in
    let w = c.args.walk.now in
    carried c.after_round.result c.after_round.new.walk _ _
    (once_done p q c.after_round.new.walk c.after_round.result (tree_of c.in-Once.expression)
    w c.value.new.walk c.step_variable.new.walk c.begin_rounds.new.walk
    c.in_ok-value-in-Once.ensures c.in_ok-step_variable-in-Once.ensures c.in_ok-begin_rounds-in-Once.ensures
    c.after_round.ensures)
    (ap (λ z. parameter p q w (parameter_of z)) c.in-Once.is)

pub returns-in_ok-begin_rounds-in-Endless : goal.returns-in_ok-begin_rounds-in-Endless
returns-in_ok-begin_rounds-in-Endless c =
    let p = spot_of c.args.spot.now in
    let q = rounds_of c.args.rounds.now in
    let w = c.args.walk.now in
    carried c.step_again.result c.step_again.new.walk _ _
    (endless_done p q c.step_again.new.walk c.step_again.result (tree_of c.in-Endless.start) (tree_of c.in-Endless.step)
    w c.value-in-Endless.new.walk c.value-in-Endless-2.new.walk c.step_variable-in-Endless.new.walk c.begin_rounds-in-Endless.new.walk
    c.in_ok-value-in-Endless.ensures c.in_ok-value-in-Endless-2.ensures c.in_ok-step_variable-in-Endless.ensures
    c.in_ok-begin_rounds-in-Endless.ensures c.step_again.ensures)
    (ap (λ z. parameter p q w (parameter_of z)) c.in-Endless.is)

pub returns-in_ok-round_or_after-in-Limited : goal.returns-in_ok-round_or_after-in-Limited
returns-in_ok-round_or_after-in-Limited c =
    let p = spot_of c.args.spot.now in
    let q = rounds_of c.args.rounds.now in
    let w = c.args.walk.now in
    carried c.walk_limited.result c.walk_limited.new.walk _ _
    (limited_done p q c.walk_limited.new.walk c.walk_limited.result
    (tree_of c.in-Limited.start) (tree_of c.in-Limited.step) (tree_of c.in-Limited.limit)
    w c.value-in-Limited.new.walk c.value-in-Limited-2.new.walk c.value-in-Limited-3.new.walk c.round_or_after.new.walk
    c.in_ok-value-in-Limited.ensures c.in_ok-value-in-Limited-2.ensures c.in_ok-value-in-Limited-3.ensures
    c.in_ok-round_or_after-in-Limited.ensures c.walk_limited.ensures)
    (ap (λ z. parameter p q w (parameter_of z)) c.in-Limited.is)
