use Rattle.std.proofs.Common.{◌∙◌, ap}
use Rattle.mlk_cert_parts.specs.declared.names.NameSet.TheVariants.{AllBut}
use Rattle.mlk_walk_exprs.specs.Walks.{each}
use Rattle.mlk_walk_exprs.specs.Spots.{spot_of}
use Rattle.mlk_walk_commands.specs.Variables.{change_at}
use Rattle.mlk_calls.specs.Order.{in_order}
use Rattle.mlk_walk_commands.specs.Arguments.{kill_all_but}
use Rattle.mlk_walk_commands.proofs.Steps.{carried}
use Rattle.mlk_walk_commands.proofs.kill.kill_all_but.Goals as goal

pub returns : goal.returns
returns c =
    let p = spot_of c.args.spot.now in
    carried c.change_all.result c.change_all.new.walk (each (change_at p p.word (AllBut c.in_ok-in_order.field-0)) c.args.walk.now)
    (kill_all_but p c.args.names.now c.args.walk.now) c.change_all.ensures
    (ap (λ z. each (change_at p p.word (AllBut z)) c.args.walk.now) (c.in_ok-in_order.ensures ∙ ap in_order c.as_slice.ensures))
