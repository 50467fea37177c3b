use Rattle.std.proofs.Common.{◌++◌, ◌∷◌, [], map, refl, sym, ap, ◌∙◌, subst}
use Rattle.std.proofs.lemmas.List.{map-append}
use Rattle.mlk_syntax.specs.declared.routine.Line.{Line}
use Rattle.mlk_syntax.specs.declared.routine.Line.TheOpen.{Line-F}
use Rattle.mlk_syntax.specs.declared.routine.Line.TheViews.{out-Line, roll-Line}
use Rattle.mlk_syntax.specs.Views.{line_of, lines_from}
use Rattle.mlk_routine.specs.RoutineGrammar.{level_of}
use Rattle.mlk_routine.specs.Lines.{head_of, IsBlock}
use Rattle.mlk_routine.proofs.UnderHeads.{BlocksSoFar, blocks_begin, blocks_end, one_block, head_out, level_out, line_roll}
use Rattle.mlk_routine.proofs.blocks.+blocks.Goals as goal

pub block-loop-line-preserved : goal.block-loop-line-preserved
block-loop-line-preserved t c =
    let l = c.in-Some.line in
    let o = out-Line l in
    let inside = c.in-Ok.inner in
    let x : Line-F Line = record { number = o.number; level = o.level; end = o.end; label = o.label; formals = o.formals; commands = o.commands; block = inside } in
    let made = line_roll x ∙ ap (λ h. (h, lines_from (map line_of inside.items))) (sym (head_out l)) in
    let start = map head_of c.args.lines.now.items in
    let more = map head_of c.take_deeper.new.lines.items in
    let left = map head_of c.block_under.new.lines.items in
    let is : IsBlock (level_of (head_of l)) (lines_from (map line_of inside.items)) more left = subst (λ n. IsBlock n (lines_from (map line_of inside.items)) more left) (sym (level_out l)) c.in-Ok.ensures in
    let items = ap (map line_of) (c.push_reserved.ensures.items ∙ ap (λ l. l ++ roll-Line x ∷ []) c.in-Ok-make_room.ensures.same) ∙ map-append line_of c.loop-line.found.items (roll-Line x ∷ []) ∙ ap (λ p. map line_of c.loop-line.found.items ++ p ∷ []) made in
    subst (λ k. BlocksSoFar c.args.level start k left) (sym items)
    (one_block c.args.level start (map line_of c.loop-line.found.items) (map head_of c.loop-line.lines.items) c.loop-line.invariant (head_of l) more (ap (map head_of) c.in-Some.ensures.0) c.in-Some.ensures.1 (lines_from (map line_of inside.items)) left is)

pub block_under-returns : goal.block_under-returns
block_under-returns t c =
    let start = map head_of c.args.lines.now.items in
    rw c.new.ensures.items (blocks_end c.args.level start [] start (blocks_begin c.args.level start c.requires) c.args.lines.now.items refl (c.is_deeper.ensures c.if-is_deeper.false))
