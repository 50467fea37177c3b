use Rattle.std.proofs.Common.{◌∙◌, ap, refl}
use Rattle.std.specs.Prelude.{option_copied}
use Rattle.mlk_walk_state.proofs.EntryTables.{found_at}
use Rattle.mlk_walk_state.proofs.scope.Entries.block.Goals as goal

pub returns : goal.returns
returns c =
    rw (← c.self.view_is) (ap option_copied (c.copied.ensures ∙ c.get.ensures.value) ∙ found_at c.args.entry _ (λ k. refl) c.self.inside.certified.entries)
