use Rattle.std.proofs.Common.{◌∙◌}
use Rattle.mlk_syntax.specs.ExprTrees.{tree_of}
use Rattle.mlk_syntax.specs.Views.{call_of}
use Rattle.mlk_walk_exprs.specs.Walks.{each, joined}
use Rattle.mlk_walk_exprs.specs.Spots.{spot_of}
use Rattle.mlk_walk_exprs.specs.Expressions.{by_condition}
use Rattle.mlk_walk_commands.specs.Arguments.{do_row, forget_given}
use Rattle.mlk_walk_commands.proofs.Ways.{first_is_all, then_other}
use Rattle.mlk_walk_commands.proofs.Steps.{carried}
use Rattle.mlk_walk_commands.proofs.calling.call_where.Goals as goal

pub returns-then-walk : goal.returns-then-walk
returns-then-walk c = first_is_all (spot_of c.args.spot.now).scope (tree_of c.args.condition.now)
    (each (do_row (spot_of c.args.spot.now) (call_of c.args.call.now))) (forget_given (call_of c.args.call.now)) c.args.walk.now
    c.where_it_holds.new.walk c.apply_to_states.new.walk c.in_ok-failed.ensures.holds c.in_ok-apply_to_states.ensures c.if-walk.true

pub returns : goal.returns
returns c =
    let p = spot_of c.args.spot.now in
    let t = tree_of c.args.condition.now in
    let run = each (do_row p (call_of c.args.call.now)) in
    let aside = forget_given (call_of c.args.call.now) in
    carried c.join.result c.join.new.self (joined c.replace-waiting.result c.forget_given.new.walk) (by_condition p.scope t run aside c.args.walk.now)
    c.join.ensures
    (then_other p.scope t run aside c.args.walk.now c.where_it_holds.new.walk c.apply_to_states.new.walk c.in_ok-failed.ensures.holds
    c.in_ok-apply_to_states.ensures c.forget_given.new.walk c.replace-waiting.new.dest c.replace-waiting.result c.if-walk.false
    (c.replace-waiting.ensures.after ∙ c.in_ok-failed.ensures.fails) c.replace-waiting.ensures.value c.in_ok-forget_given.ensures)
