use Rattle.std.proofs.Common.{rules}
use Rattle.std.proofs.lemmas.Fn.{All-from_retain}
use Rattle.mlk_stale.specs.Stale.{IsStale}
use Rattle.mlk_stale.proofs.finding.keep_stale.Goals as goal

pub returns : goal.returns
returns c =
    All-from_retain _ (IsStale c.args.rules.now) _ (λ x b f' k. search rules) _ _ c.retain.ensures.filtered
