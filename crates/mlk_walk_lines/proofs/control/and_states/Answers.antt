use Rattle.std.proofs.Common.{◌∙◌, ap, sym, take}
use Rattle.std.specs.Prelude.{if◌then◌else◌}
use Rattle.mlk_walk_exprs.specs.Walks.{put_states, with_states}
use Rattle.mlk_walk_lines.specs.Counting.{counted}
use Rattle.mlk_walk_lines.proofs.FewStates.{with_alike}
use Rattle.mlk_walk_lines.proofs.control.and_states.Goals as goal

pub returns : goal.returns
returns c =
    let w = c.args.walk.now in
    let more = c.args.states.items in
    ap (λ z. counted (with_states c.in_ok-walk.field-0 z)) c.take_going-going.ensures.rest
    ∙ with_alike c.in_ok-walk.field-0 (put_states more w.going) w
    (c.in_ok-walk.ensures ∙ ap (λ z. take 17 (put_states more z)) c.take_going-going.ensures.going)
    ∙ ap (λ b. counted (if b then w else with_states (put_states more w.going) w)) (sym c.if-walk.false)
