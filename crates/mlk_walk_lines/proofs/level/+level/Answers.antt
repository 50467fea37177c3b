use Rattle.std.proofs.Common.{◌≡◌, ◌∙◌, ◌++◌, ap, sym, subst, drop, length, true, eqb-true, rules}
use Rattle.std.specs.Prelude.{◌==◌, option_map, option_copied}
use Rattle.mlk_rules.proofs.CheckLemmas.{drop_step}
use Rattle.mlk_syntax.specs.declared.routine.Line.TheViews.{out-Line}
use Rattle.mlk_walk_state.specs.Scope.{Scope, scope_of, is_past}
use Rattle.mlk_walk_lines.specs.Endings.{around_of, head_of}
use Rattle.mlk_walk_lines.specs.Lines.{Walked}
use Rattle.mlk_walk_lines.proofs.Idle.{past_turn}
use Rattle.mlk_walk_lines.proofs.level.+level.Goals as goal

pub walk_lines-loop-line-preserved-then-is_empty : goal.walk_lines-loop-line-preserved-then-is_empty
walk_lines-loop-line-preserved-then-is_empty t c =
    let line = out-Line c.line-item.result in
    let kept = c.loop-line.invariant.1 in
    let passed : is_past (scope_of c.loop-line.here) line.number ≡ true = search rules in
    let past = subst (λ (s : Scope). is_past s line.number ≡ true) c.loop-line.invariant.0 passed in
    let none : (length line.block.items == 0) ≡ true = search rules in
    let turn = past_turn (scope_of c.args.scope.now) (around_of c.args.around) (option_map head_of (option_copied c.args.after)) c.args.lines.now c.loop-line.line-index c.line-item.result
    c.loop-line-test.true c.line-item.is past (eqb-true _ _ none) in (
      c.loop-line.invariant.0,
      (
        c.without_first-later.ensures
            ∙ ap (drop 1) (kept.0
            ∙ drop_step c.args.lines.now c.loop-line.line-index c.line-item.result c.loop-line-test.true c.line-item.is),
        (
          ap (λ (z : Walked). c.loop-line.found ++ z.faults) (sym turn) ∙ kept.1.0,
          ap (λ (z : Walked). c.loop-line.all.items ++ z.ends) (sym turn) ∙ kept.1.1,
        ),
      ),
    )
