use Rattle.std.proofs.Common.{◌∙◌, ap, sym}
use Rattle.mlk_walk_exprs.specs.Walks.{with_states}
use Rattle.mlk_walk_exprs.specs.Gathered.{gathered}
use Rattle.mlk_walk_exprs.proofs.Waiting.{joins_over}
use Rattle.mlk_walk_exprs.proofs.Gathering.{joins_gather}
use Rattle.mlk_walk_exprs.proofs.condition.join_all.Goals as goal

pub returns-then-walk : goal.returns-then-walk
returns-then-walk c = sym (joins_over c.args.waiting.items c.args.walk.now c.if-walk.true)

pub returns : goal.returns
returns c =
    let w = c.args.walk.now in
    let waiting = c.args.waiting.items in
    ap (λ z. with_states z c.take_going-going.new.self) c.in_ok-walk.ensures
    ∙ ap (λ z. with_states (gathered waiting z) c.take_going-going.new.self) c.take_going-going.ensures.going
    ∙ ap (with_states (gathered waiting w.going)) c.take_going-going.ensures.rest
    ∙ sym (joins_gather waiting w c.if-walk.false)
