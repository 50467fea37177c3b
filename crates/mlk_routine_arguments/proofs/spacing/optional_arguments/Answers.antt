use Rattle.std.proofs.Common.{map, sym, ◌∙◌}
use Rattle.mlk_routine_arguments.proofs.Stopping.{bare_found, some_told}
use Rattle.mlk_routine_arguments.proofs.spacing.optional_arguments.Goals as goal

pub returns-then-is_bare : goal.returns-then-is_bare
returns-then-is_bare g c =
    rw c.new.ensures.items (bare_found (g.T.Item.is c.args.dialect) (g.T.Item.begin c.args.dialect) c.args.line.now c.args.at c.requires (sym c.is_bare.ensures ∙ c.if-is_bare.true))

pub returns : goal.returns
returns g c = some_told (g.T.Item.is c.args.dialect) (g.T.Item.begin c.args.dialect) c.args.line.now c.args.at (sym c.is_bare.ensures ∙ c.if-is_bare.false) (λ v. map g.T.Item.seen v.items) c.required_arguments.result c.required_arguments.ensures
