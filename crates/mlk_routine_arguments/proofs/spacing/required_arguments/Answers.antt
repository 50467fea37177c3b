use Rattle.std.proofs.Common.{map, sym, ◌∙◌, true, refl}
use Rattle.std.proofs.lemmas.Result.{err_from_is_err_and}
use Rattle.mlk_expr.specs.Grammar.{IsList}
use Rattle.mlk_routine_arguments.specs.Ends.{AreEnded, StopEnds}
use Rattle.mlk_routine_arguments.specs.CommandGrammar.{AreSome}
use Rattle.mlk_routine_arguments.proofs.Outcomes.{denies}
use Rattle.mlk_routine_arguments.proofs.Bytes.{after_found, after_denied}
use Rattle.mlk_routine_arguments.proofs.Stopping.{narrowed_found, narrowed_nowhere, narrowed_denied, list_end, list_begins, unspaced}
use Rattle.mlk_routine_arguments.proofs.spacing.required_arguments.Goals as goal

pub returns-in_err-first : goal.returns-in_err-first
returns-in_err-first g c =
    let p = err_from_is_err_and c.from_residual.result c.from_residual.ensures.1 in
    rw (p.1, p.2)
    (unspaced (IsList (g.T.Item.is c.args.dialect)) (list_begins (g.T.Item.is c.args.dialect) (g.T.Item.begin c.args.dialect)) (λ items. StopEnds true) c.args.line.now c.args.at c.in_err-first.field-0.0 c.in_err-first.ensures)

pub returns-in_err-items : goal.returns-in_err-items
returns-in_err-items g c =
    let p = err_from_is_err_and c.from_residual-in_err-items.result c.from_residual-in_err-items.ensures.1 in
    rw (p.1, p.2)
    (narrowed_denied (AreSome (g.T.Item.is c.args.dialect)) (AreEnded g.T.Item.ends) (λ items. StopEnds true) c.args.line.now c.args.at (list_end (g.T.Item.is c.args.dialect) (g.T.Item.begin c.args.dialect) g.T.Item.ends g.T.Item.stop) c.in_err-items.field-0.0
    (after_denied (IsList (g.T.Item.is c.args.dialect)) (AreEnded g.T.Item.ends) c.args.line.now c.args.at 32 c.in_err-items.field-0.0 (rw (sym c.in_ok-first.ensures.0) c.in_err-items.ensures)))

pub returns-then-not-is_command_end : goal.returns-then-not-is_command_end
returns-then-not-is_command_end g c =
    denies (AreSome (g.T.Item.is c.args.dialect)) (λ items. StopEnds true) c.args.line.now c.args.at c.refusal_at.result (c.refusal_at.ensures.fault c.args.line.now c.in_ok-items.ensures.0.within refl refl)
    (narrowed_nowhere (AreSome (g.T.Item.is c.args.dialect)) (AreEnded g.T.Item.ends) (λ items. StopEnds true) c.args.line.now c.args.at (list_end (g.T.Item.is c.args.dialect) (g.T.Item.begin c.args.dialect) g.T.Item.ends g.T.Item.stop) (map g.T.Item.seen c.in_ok-items.items.items) c.in_ok-items.next
    (after_found (IsList (g.T.Item.is c.args.dialect)) (AreEnded g.T.Item.ends) c.args.line.now c.args.at 32 c.in_ok-first.ensures.1 (map g.T.Item.seen c.in_ok-items.items.items) c.in_ok-items.next (rw (sym c.in_ok-first.ensures.0) c.in_ok-items.ensures))
    (λ bad. cc (sym c.if-not-is_command_end.true ∙ c.is_command_end.ensures ∙ bad)))

pub returns : goal.returns
returns g c =
    narrowed_found (AreSome (g.T.Item.is c.args.dialect)) (AreEnded g.T.Item.ends) (λ items. StopEnds true) c.args.line.now c.args.at (list_end (g.T.Item.is c.args.dialect) (g.T.Item.begin c.args.dialect) g.T.Item.ends g.T.Item.stop) (map g.T.Item.seen c.in_ok-items.items.items) c.in_ok-items.next
    (after_found (IsList (g.T.Item.is c.args.dialect)) (AreEnded g.T.Item.ends) c.args.line.now c.args.at 32 c.in_ok-first.ensures.1 (map g.T.Item.seen c.in_ok-items.items.items) c.in_ok-items.next (rw (sym c.in_ok-first.ensures.0) c.in_ok-items.ensures))
    (sym c.is_command_end.ensures ∙ c.if-not-is_command_end.false)
