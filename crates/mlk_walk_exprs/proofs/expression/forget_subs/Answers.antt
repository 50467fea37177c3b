use Rattle.std.proofs.Common.{◌∙◌, sym}
use Rattle.mlk_walk_exprs.proofs.Opened.{carried, forgets}
use Rattle.mlk_walk_exprs.proofs.expression.forget_subs.Goals as goal

pub returns : goal.returns
returns c = carried c.forget_captured.result c.forget_captured.new.walk _ _ c.forget_captured.ensures
    (forgets c.args.subscripts.now c.args.walk.now (sym c.is_empty.ensures ∙ c.if-is_empty.false))
