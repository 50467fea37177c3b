use Rattle.mlk_walk_state.proofs.EntryTables.{tables_are}
use Rattle.mlk_walk_state.proofs.law.tables_are.Goals as goal

pub returns : goal.returns
returns c = tables_are
