use Rattle.std.proofs.Common.{rules, ◌∙◌}
use Rattle.mlk_walk_state.proofs.EntryTables.{more_found}
use Rattle.mlk_walk_state.proofs.scope.Entries.certify_all.Goals as goal

pub loop-block-preserved : goal.loop-block-preserved
loop-block-preserved c = (
  more_found (λ p. p.0) _ c.loop-block.self.0 _ _ c.in-Some.block.now c.loop-block.left.now c.in-Some.others.now (search rules) c.loop-block.invariant.0
      c.in_ok-certify_block.ensures.blocks,
  c.in_ok-certify_block.ensures.declared ∙ c.loop-block.invariant.1,
)
