use Rattle.std.proofs.Common.{◌≡◌, ◌∷◌, [], suc, length, ◌++◌, ◌-◌, arith, refl, sym, ap, ◌∙◌, subst, Some, take}
use Rattle.std.proofs.lemmas.Result.{err_from_is_err_and}
use Rattle.mlk_text.specs.Lexemes.{byte_at}
use Rattle.mlk_text.specs.Reading.{many, with}
use Rattle.mlk_text.proofs.Readers.{many_stops, many_goes}
use Rattle.mlk_expr_tokens.specs.Lexemes.{count_at}
use Rattle.mlk_expr.proofs.Followed.{IsPattern}
use Rattle.mlk_expr.specs.Reading.{next, matcher_by, pattern_at, rest_of}
use Rattle.mlk_expr.proofs.Parts.{pattern-exact}
use Rattle.mlk_expr.proofs.Loops.{loop_fails, with_fails, rest_fails, refused_fails, same_fails, item-shorter, matcher-shorter, pattern-above, pattern-none}
use Rattle.mlk_expr.proofs.Steps.{put-nothing, some-length, any, no-atoms, atoms-fail, pattern-found, pattern-shorter}
use Rattle.mlk_expr.proofs.pattern.+patterns.Goals as goal

pub alternatives_rest-loop-after-init : goal.alternatives_rest-loop-after-init
alternatives_rest-loop-after-init t c = ([], suc (length c.args.bytes.now), omega arith, put-nothing (many (byte_at 44) (next (pattern_at c.args.deeper)) (suc (length c.args.bytes.now)) c.args.bytes.now))

pub alternatives_rest-loop-after-smaller : goal.alternatives_rest-loop-after-smaller
alternatives_rest-loop-after-smaller t c =
    item-shorter (pattern_at c.args.deeper) (IsPattern c.args.deeper) (pattern-exact c.args.deeper) c.in_ok-item_rest.field-0-0.now c.loop-after.rest.now c.in-Some.after.now c.in_ok-item_rest.item_rest.now
    (sym c.in-Some.ensures) c.in_ok-item_rest.ensures

pub alternatives_rest-loop-after-preserved : goal.alternatives_rest-loop-after-preserved
alternatives_rest-loop-after-preserved t c =
    let less = item-shorter (pattern_at c.args.deeper) (IsPattern c.args.deeper) (pattern-exact c.args.deeper) c.in_ok-item_rest.field-0-0.now c.loop-after.rest.now c.in-Some.after.now c.in_ok-item_rest.item_rest.now
    (sym c.in-Some.ensures) c.in_ok-item_rest.ensures in
    let more = many_goes (byte_at 44) (next (pattern_at c.args.deeper)) c.loop-after.invariant.0 c.loop-after.invariant.1 c.loop-after.rest.now _ 44 c.in-Some.after.now
    c.in_ok-item_rest.field-0-0.now c.in_ok-item_rest.item_rest.now (sym c.in-Some.ensures) c.in_ok-item_rest.ensures less c.loop-after.invariant.2 c.loop-after.invariant.3 in
    (c.loop-after.invariant.0 ++ c.in_ok-item_rest.field-0-0.now ∷ [], more.0, more.1, more.2)

pub alternatives_rest-returns : goal.alternatives_rest-returns
alternatives_rest-returns t c =
    ap rest_of (many_stops (byte_at 44) (next (pattern_at c.args.deeper)) c.loop-after.invariant.0 c.loop-after.invariant.1 c.loop-after.rest.now _ (sym c.in_default.ensures) c.loop-after.invariant.2 c.loop-after.invariant.3)

pub alternatives_rest-returns-in_err-item_rest : goal.alternatives_rest-returns-in_err-item_rest
alternatives_rest-returns-in_err-item_rest t c =
    let p = err_from_is_err_and c.from_residual.result c.from_residual.ensures.1 in
    rw (p.1, p.2) (rest_fails _ _ (loop_fails (byte_at 44) (next (pattern_at c.args.deeper)) c.loop-after.invariant.0 c.loop-after.invariant.1 c.loop-after.rest.now _ 44 c.in-Some.after.now c.in_err-item_rest.field-0.0
    (sym c.in-Some.ensures) c.in_err-item_rest.ensures c.loop-after.invariant.2 c.loop-after.invariant.3))

pub atoms-loop-count-init : goal.atoms-loop-count-init
atoms-loop-count-init t c =
    ([], suc (length c.args.bytes.now), refl, omega arith, put-nothing (many count_at (matcher_by (pattern_at c.args.deeper)) (suc (length c.args.bytes.now)) c.args.bytes.now))

pub atoms-loop-count-smaller : goal.atoms-loop-count-smaller
atoms-loop-count-smaller t c = matcher-shorter c.args.deeper c.in-Some.count.now c.loop-count.rest.now c.in-Some.after.now c.in_ok-rest.rest.now (sym c.in-Some.ensures) c.in_ok-rest.ensures

pub atoms-loop-count-preserved : goal.atoms-loop-count-preserved
atoms-loop-count-preserved t c =
    let less = matcher-shorter c.args.deeper c.in-Some.count.now c.loop-count.rest.now c.in-Some.after.now c.in_ok-rest.rest.now (sym c.in-Some.ensures) c.in_ok-rest.ensures in
    let more = many_goes count_at (matcher_by (pattern_at c.args.deeper)) c.loop-count.invariant.0 c.loop-count.invariant.1 c.loop-count.rest.now _ c.in-Some.count.now c.in-Some.after.now
    c.in-Some.count.now c.in_ok-rest.rest.now (sym c.in-Some.ensures) c.in_ok-rest.ensures less c.loop-count.invariant.3 c.loop-count.invariant.4 in
    (c.loop-count.invariant.0 ++ c.in-Some.count.now ∷ [], more.0, some-length c.loop-count.invariant.0 c.in-Some.count.now, more.1, more.2)

pub atoms-returns : goal.atoms-returns
atoms-returns t c =
    let e = many_stops count_at (matcher_by (pattern_at c.args.deeper)) c.loop-count.invariant.0 c.loop-count.invariant.1 c.loop-count.rest.now _ (sym c.in_default.ensures) c.loop-count.invariant.3 c.loop-count.invariant.4 in
    ap (with any) e ∙ ap (λ b. Some (b, c.loop-count.rest.now)) (sym c.loop-count.invariant.2)

pub atoms-returns-in_err-rest : goal.atoms-returns-in_err-rest
atoms-returns-in_err-rest t c =
    let p = err_from_is_err_and c.from_residual.result c.from_residual.ensures.1 in
    rw (p.1, p.2) (with_fails any _ _ (loop_fails count_at (matcher_by (pattern_at c.args.deeper)) c.loop-count.invariant.0 c.loop-count.invariant.1 c.loop-count.rest.now _ c.in-Some.count.now c.in-Some.after.now c.in_err-rest.field-0.0
    (sym c.in-Some.ensures) c.in_err-rest.ensures c.loop-count.invariant.3 c.loop-count.invariant.4))

pub pattern-overflow_sub-bytes : goal.pattern-overflow_sub-bytes
pattern-overflow_sub-bytes t c =
    let found = pattern-found c.args.left c.args.bytes.now c.in_ok-found.rest.now (omega (arith, c.if-left-eq0.false)) (subst (λ b. with any (many count_at (matcher_by (pattern_at (c.args.left - 1))) (suc (length c.args.bytes.now)) c.args.bytes.now) ≡ Some (b, c.in_ok-found.rest.now)) c.if-not-found.false c.in_ok-found.ensures) in
    pattern-shorter c.args.left (take (length c.args.bytes.now - length c.in_ok-found.rest.now) c.args.bytes.now) c.args.bytes.now c.in_ok-found.rest.now found

pub pattern-returns : goal.pattern-returns
pattern-returns t c =
    let found = pattern-found c.args.left c.args.bytes.now c.in_ok-found.rest.now (omega (arith, c.if-left-eq0.false)) (subst (λ b. with any (many count_at (matcher_by (pattern_at (c.args.left - 1))) (suc (length c.args.bytes.now)) c.args.bytes.now) ≡ Some (b, c.in_ok-found.rest.now)) c.if-not-found.false c.in_ok-found.ensures) in
    found ∙ ap (λ l. Some (l, c.in_ok-found.rest.now)) (sym c.split_at.ensures.front)

pub pattern-returns-in_err-found : goal.pattern-returns-in_err-found
pattern-returns-in_err-found t c =
    let p = err_from_is_err_and c.from_residual.result c.from_residual.ensures.1 in
    rw (p.1, p.2) (same_fails c.in_err-found.field-0.0 _ _ (sym (pattern-above c.args.left c.args.bytes.now (omega (arith, c.if-left-eq0.false))))
    (atoms-fail c.in_err-found.field-0.0 (many count_at (matcher_by (pattern_at (c.args.left - 1))) (suc (length c.args.bytes.now)) c.args.bytes.now) c.args.bytes.now c.in_err-found.ensures))

pub pattern-returns-then-left-eq0 : goal.pattern-returns-then-left-eq0
pattern-returns-then-left-eq0 t c = refused_fails c.too_deep_pattern.result _ c.too_deep_pattern.ensures (pattern-none c.args.left c.args.bytes.now c.if-left-eq0.true)

pub pattern-returns-then-not-found : goal.pattern-returns-then-not-found
pattern-returns-then-not-found t c =
    let none = no-atoms (many count_at (matcher_by (pattern_at (c.args.left - 1))) (suc (length c.args.bytes.now)) c.args.bytes.now) c.in_ok-found.rest.now c.args.bytes.now
    (subst (λ b. with any (many count_at (matcher_by (pattern_at (c.args.left - 1))) (suc (length c.args.bytes.now)) c.args.bytes.now) ≡ Some (b, c.in_ok-found.rest.now)) c.if-not-found.true c.in_ok-found.ensures) in
    refused_fails c.no_operand.result _ c.no_operand.ensures (pattern-above c.args.left c.args.bytes.now (omega (arith, c.if-left-eq0.false)) ∙ none)
