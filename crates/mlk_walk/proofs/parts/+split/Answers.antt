use denote.Param.Send.{sendable}
use Rattle.std.proofs.Common.{◌∙◌, ap, subst, map, rules, arith}
use Rattle.std.proofs.Crossing.{crosses}
use Rattle.std.proofs.lemmas.Result.{IfOk-weaker}
use Rattle.std.specs.Prelude.{IfOk, None}
use Rattle.mlk_syntax.specs.Views.{line_of, lines_from}
use Rattle.mlk_walk_state.specs.Scope.{scope_of}
use Rattle.mlk_walk_lines.specs.Endings.{OfBlock, around_of}
use Rattle.mlk_walk_lines.specs.Parts.{part_walk}
use Rattle.mlk_walk.specs.Parts.{IsWalk, after_of, walk_of}
use Rattle.mlk_walk.proofs.PartSizes.{both_halves}
use Rattle.mlk_walk.proofs.PartWalks.{block_walk, halves_joined}
use Rattle.mlk_walk.proofs.Syncs.{part, scope}
use Rattle.mlk_walk.proofs.parts.+split.Goals as goal

pub walk_both-join-requires-send-F : goal.walk_both-join-requires-send-F
walk_both-join-requires-send-F g t c κs within = search (crosses, sendable, scope, part) depth 60 fits 20000

pub walk_halves-walk_both-front-requires : goal.walk_halves-walk_both-front-requires
walk_halves-walk_both-front-requires g t c κs within =
    let sizes = both_halves c.args.part.lines.now c.halves.result.0.lines.now c.halves.result.1.lines.now c.halves.ensures.lines in
    search rules

pub walk_halves-returns : goal.walk_halves-returns
walk_halves-returns g t c =
    let sc = scope_of c.args.scope.now in
    IfOk-weaker c.join_parts.result _ _
    (λ w h.
    halves_joined sc (around_of c.args.part.around) (around_of c.halves.result.0.around) (around_of c.halves.result.1.around)
    (after_of c.args.part) (after_of c.halves.result.0) (after_of c.halves.result.1)
    c.args.part.lines.now c.halves.result.0.lines.now c.halves.result.1.lines.now c.in_ok-front.front c.in_ok-back.back w c.halves.ensures.lines
    (ap around_of c.halves.ensures.around.0) (ap around_of c.halves.ensures.around.1) c.halves.ensures.after.0 c.halves.ensures.after.1
    (subst (λ r. IfOk r (IsWalk (walk_of sc c.halves.result.0))) c.in_ok-front.was c.walk_both-front.ensures.first)
    (subst (λ r. IfOk r (IsWalk (walk_of sc c.halves.result.1))) c.in_ok-back.was c.walk_both-front.ensures.second)
    h.0 h.1)
    c.join_parts.ensures

pub walk_one-walk_head-requires-clause-block : goal.walk_one-walk_head-requires-clause-block
walk_one-walk_head-requires-clause-block g t c =
    let sc = scope_of c.args.scope.now in
    block_walk sc c.args.line.now c.in_ok-inner.inner
    (subst (λ items. IsWalk (part_walk sc OfBlock None (lines_from (map line_of items))) c.in_ok-inner.inner) c.as_slice.ensures.value c.in_ok-inner.ensures)
