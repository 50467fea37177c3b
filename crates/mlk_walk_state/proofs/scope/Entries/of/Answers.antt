use Rattle.std.proofs.Common.{◌∙◌, ap}
use Rattle.std.specs.Prelude.{map, filter_map}
use Rattle.mlk_syntax.specs.Views.{routine_of}
use Rattle.mlk_program.specs.Entries.{entry_by}
use Rattle.mlk_walk_state.specs.Scope.{certified, declared, firsts, block_in}
use Rattle.mlk_walk_state.proofs.EntryTables.{all_found}
use Rattle.mlk_walk_state.proofs.scope.Entries.of.Goals as goal

pub returns-clause-certified : goal.returns-clause-certified
unfolding certified
returns-clause-certified c =
    c.in_ok-declare_all.ensures.blocks
    ∙ all_found (λ p. p.0) (block_in (map routine_of c.args.program.now)) _ _ c.args.blocks.now (ap (λ z. z.0) c.new-found.ensures)
    c.in_ok-certify_all.ensures.blocks

pub returns-clause-declared : goal.returns-clause-declared
unfolding declared
returns-clause-declared c =
    all_found (λ e. e) (entry_by (map routine_of c.args.program.now)) _ _ c.entries.result.now
    (c.in_ok-certify_all.ensures.declared ∙ ap (λ z. z.1) c.new-found.ensures) c.in_ok-declare_all.ensures.declared
    ∙ ap (λ z. firsts (λ e. e) (filter_map (entry_by (map routine_of c.args.program.now)) z)) c.entries.ensures
