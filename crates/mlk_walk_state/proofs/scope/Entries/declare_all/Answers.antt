use Rattle.std.proofs.Common.{rules, ◌∙◌}
use Rattle.mlk_walk_state.proofs.EntryTables.{more_found}
use Rattle.mlk_walk_state.proofs.scope.Entries.declare_all.Goals as goal

pub loop-text-preserved : goal.loop-text-preserved
loop-text-preserved c = (
  more_found (λ e. e) _ c.loop-text.self.1 _ _ c.in-Some.text.now c.loop-text.left.now c.in-Some.others.now (search rules) c.loop-text.invariant.0
      c.in_ok-declare_text.ensures.declared,
  c.in_ok-declare_text.ensures.blocks ∙ c.loop-text.invariant.1,
)
