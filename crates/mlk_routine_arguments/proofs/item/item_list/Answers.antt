use Rattle.std.proofs.Common.{◌≡◌, map, ◌+◌, ◌++◌, ◌∷◌, [], refl, subst, sym, ap, ◌∙◌}
use Rattle.std.proofs.lemmas.Result.{err_from_is_err_and}
use Rattle.std.proofs.lemmas.List.{map-append}
use Rattle.mlk_expr.specs.Grammar.{IsList}
use Rattle.mlk_routine_arguments.specs.Ends.{AreEnded}
use Rattle.mlk_routine_arguments.proofs.Lists.{SoFar, begun, one_more, no_more, all_read, goes_on, no_first}
use Rattle.mlk_routine_arguments.proofs.Outcomes.{hands_on}
use Rattle.mlk_routine_arguments.proofs.item.item_list.Goals as goal

pub returns-in_err-first : goal.returns-in_err-first
returns-in_err-first t c =
    let p = err_from_is_err_and c.from_residual.result c.from_residual.ensures.1 in
    let none = hands_on (t.T.Item.is c.args.dialect) t.T.Item.ends (IsList (t.T.Item.is c.args.dialect)) (AreEnded t.T.Item.ends) c.args.line.now c.args.at c.args.at
    (no_first (t.T.Item.is c.args.dialect) t.T.Item.ends t.T.Item.stop c.args.line.now c.args.at c.requires) c.in_err-first.field-0.0 c.in_err-first.ensures in
    rw (p.1, p.2) none

pub loop-alloc-init : goal.loop-alloc-init
loop-alloc-init t c =
    let e : c.push_reserved.new.self.items ≡ c.in_ok-first.first ∷ [] = c.push_reserved.ensures.items ∙ ap (λ l. l ++ c.in_ok-first.first ∷ []) c.in-Ok.ensures.items in
    subst (λ l. SoFar (t.T.Item.is c.args.dialect) t.T.Item.ends t.T.Item.stop c.args.line.now c.args.at (map t.T.Item.seen l) c.in_ok-first.next) (sym e)
    (begun (t.T.Item.is c.args.dialect) t.T.Item.ends t.T.Item.stop c.args.line.now c.args.at c.requires (t.T.Item.seen c.in_ok-first.first) c.in_ok-first.next c.in_ok-first.ensures)

pub has_byte-requires : goal.has_byte-requires
has_byte-requires t c = c.in_ok-first.ensures.0.within

pub returns-in_err-item : goal.returns-in_err-item
returns-in_err-item t c =
    let p = err_from_is_err_and c.from_residual-in_err-item.result c.from_residual-in_err-item.ensures.1 in
    let none = hands_on (t.T.Item.is c.args.dialect) t.T.Item.ends (IsList (t.T.Item.is c.args.dialect)) (AreEnded t.T.Item.ends) c.args.line.now c.args.at (c.loop-alloc.next + 1)
    (no_more (t.T.Item.is c.args.dialect) t.T.Item.ends t.T.Item.stop c.args.line.now c.args.at (map t.T.Item.seen c.loop-alloc.items.items) c.loop-alloc.next c.loop-alloc.invariant (c.loop-alloc-test.ensures.yes refl))
    c.in_err-item.field-0.0 c.in_err-item.ensures in
    rw (p.1, p.2) none

pub loop-alloc-smaller : goal.loop-alloc-smaller
loop-alloc-smaller t c = goes_on (t.T.Item.is c.args.dialect) t.T.Item.ends t.T.Item.stop c.args.line.now c.loop-alloc.next (c.loop-alloc-test.ensures.yes refl) (t.T.Item.seen c.in_ok-item.item) c.in_ok-item.end c.in_ok-item.ensures

pub loop-alloc-preserved : goal.loop-alloc-preserved
loop-alloc-preserved t c =
    let e = ap (map t.T.Item.seen) (c.push_reserved-in-loop-alloc.ensures.items ∙ ap (λ l. l ++ c.in_ok-item.item ∷ []) c.in_ok-make_room.ensures.same) ∙ map-append t.T.Item.seen c.loop-alloc.items.items (c.in_ok-item.item ∷ []) in
    subst (λ l. SoFar (t.T.Item.is c.args.dialect) t.T.Item.ends t.T.Item.stop c.args.line.now c.args.at l c.in_ok-item.end) (sym e)
    (one_more (t.T.Item.is c.args.dialect) t.T.Item.ends t.T.Item.stop c.args.line.now c.args.at (map t.T.Item.seen c.loop-alloc.items.items) c.loop-alloc.next c.loop-alloc.invariant (c.loop-alloc-test.ensures.yes refl) (t.T.Item.seen c.in_ok-item.item) c.in_ok-item.end c.in_ok-item.ensures)

pub returns : goal.returns
returns t c = all_read (t.T.Item.is c.args.dialect) t.T.Item.ends t.T.Item.stop c.args.line.now c.args.at (map t.T.Item.seen c.loop-alloc.items.items) c.loop-alloc.next c.loop-alloc.invariant (c.loop-alloc-test.ensures.no refl)
