use Rattle.std.proofs.Common.{sym, arith}
use Rattle.std.proofs.lemmas.Result.{err_from_is_err_and}
use Rattle.mlk_text.proofs.Readers.{many_stops, many_goes}
use Rattle.mlk_text.proofs.Outcomes.{loop_fails}
use Rattle.mlk_text.proofs.sequence.separated_items.Goals as goal

pub returns-in_err-item : goal.returns-in_err-item
returns-in_err-item g c =
    let p = err_from_is_err_and c.from_residual-in_err-item.result c.from_residual-in_err-item.ensures.1 in
    rw (p.1, p.2)
    (loop_fails (g.R.Items.separator_at c.args.items.now) (λ _. g.R.Items.item_at c.args.items.now) c.loop-next.found.items c.loop-next.invariant.0 c.loop-next.rest.now _ _ c.in-Some.next.now c.in_err-item.field-0.0
    (sym c.in-Some.ensures) c.in_err-item.ensures c.loop-next.invariant.1 c.loop-next.invariant.2)

pub loop-next-preserved : goal.loop-next-preserved
loop-next-preserved g c =
    let far = c.requires.shortens _ c.loop-next.rest.now c.in-Some.next.now (sym c.in-Some.ensures) in
    let near = c.requires.leaves c.in_ok-item.item c.in-Some.next.now c.in_ok-item.after.now c.in_ok-item.ensures in
    let more = many_goes (g.R.Items.separator_at c.args.items.now) (λ _. g.R.Items.item_at c.args.items.now) c.loop-next.found.items c.loop-next.invariant.0 c.loop-next.rest.now _ _ c.in-Some.next.now
    c.in_ok-item.item c.in_ok-item.after.now (sym c.in-Some.ensures) c.in_ok-item.ensures (omega arith) c.loop-next.invariant.1 c.loop-next.invariant.2 in
    rw c.in_ok-push-2.ensures.items more

pub returns : goal.returns
returns g c =
    many_stops (g.R.Items.separator_at c.args.items.now) (λ _. g.R.Items.item_at c.args.items.now) c.loop-next.found.items c.loop-next.invariant.0 c.loop-next.rest.now _
    (sym c.in_default.ensures) c.loop-next.invariant.1 c.loop-next.invariant.2
