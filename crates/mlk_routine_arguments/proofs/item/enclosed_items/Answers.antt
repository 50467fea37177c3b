use Rattle.std.proofs.Common.{map, refl}
use Rattle.std.proofs.lemmas.Result.{err_from_is_err_and}
use Rattle.mlk_routine_arguments.specs.Ends.{AnyEnds}
use Rattle.mlk_routine_arguments.specs.CommandGrammar.{AreEnclosed}
use Rattle.mlk_routine_arguments.proofs.Outcomes.{denies}
use Rattle.mlk_routine_arguments.proofs.Enclosed.{enclosed_found, unclosed, none_enclosed}
use Rattle.mlk_routine_arguments.proofs.item.enclosed_items.Goals as goal

pub returns-in_err-items : goal.returns-in_err-items
returns-in_err-items g c =
    let p = err_from_is_err_and c.from_residual.result c.from_residual.ensures.1 in
    rw (p.1, p.2) (none_enclosed (g.T.Item.is c.args.dialect) g.T.Item.ends g.T.Item.stop c.args.line.now c.args.at c.requires.open c.in_err-items.field-0.0 c.in_err-items.ensures)

pub returns-then-not-has_byte : goal.returns-then-not-has_byte
returns-then-not-has_byte g c =
    denies (AreEnclosed (g.T.Item.is c.args.dialect)) AnyEnds c.args.line.now c.args.at c.refusal_at.result (c.refusal_at.ensures.fault c.args.line.now c.in_ok-items.ensures.0.within refl refl)
    (unclosed (g.T.Item.is c.args.dialect) g.T.Item.ends g.T.Item.stop c.args.line.now c.args.at c.requires.open (map g.T.Item.seen c.in_ok-items.items.items) c.in_ok-items.end c.in_ok-items.ensures (c.if-not-has_byte.ensures.no refl))

pub returns : goal.returns
returns g c =
    enclosed_found (g.T.Item.is c.args.dialect) g.T.Item.ends g.T.Item.stop c.args.line.now c.args.at c.requires.open (map g.T.Item.seen c.in_ok-items.items.items) c.in_ok-items.end c.in_ok-items.ensures (c.if-not-has_byte.ensures.yes refl)
