use Rattle.std.proofs.Common.{◌<◌, List, length, slice_index_or, ap, rules}
use Rattle.mlk_names.specs.declared.symbol.Sym.{Sym}
use Rattle.mlk_names.specs.declared.symbol.Sym.TheVariants.{Unknown}
use Rattle.mlk_walk_state.specs.States.{with_symbol}
use Rattle.mlk_walk_exprs.proofs.InPlace.{changed_step}
use Rattle.mlk_walk_exprs.proofs.expression.capture_unknown.Goals as goal

pub loop-state-preserved : goal.loop-state-preserved
loop-state-preserved c =
    let low : c.loop-state.state-index < length c.loop-state.state-items = search rules in
    let before = slice_index_or c.loop-state.state-items c.loop-state.state-index c.state-item.result in (
      c.loop-state.invariant.0,
      changed_step (with_symbol Unknown) c.args.walk.now.going c.loop-state.state-items c.loop-state.state-index
          c.state-item.result _ low c.loop-state.invariant.1
          (ap (λ (z : List Sym). record before { captured = z }) c.in_ok-push.ensures.ok),
    )
