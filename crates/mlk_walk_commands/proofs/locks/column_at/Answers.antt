use Rattle.std.proofs.Common.{◌∙◌, ap, sym}
use Rattle.mlk_walk_commands.proofs.Columns.{column_first, column_dropped, column_past}
use Rattle.mlk_walk_commands.proofs.locks.column_at.Goals as goal

pub returns-in-Some : goal.returns-in-Some
returns-in-Some c = sym (column_dropped c.args.names.now c.args.index ∙ ap column_first (sym c.names_from.ensures ∙ c.in-Some.ensures.cases.0))

pub returns-in-None : goal.returns-in-None
returns-in-None c = c.new.ensures
    ∙ sym (column_dropped c.args.names.now c.args.index ∙ ap column_first (sym c.names_from.ensures) ∙ column_past c.names_from.result.now c.in-None.ensures.cases)
