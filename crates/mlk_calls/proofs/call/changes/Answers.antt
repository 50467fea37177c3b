use Rattle.std.proofs.Common.{rules, ◌≡◌}
use Rattle.mlk_calls.proofs.Copies.{copied}
use Rattle.mlk_calls.proofs.call.changes.Goals as goal

pub returns : goal.returns
returns c = let same : c.in_ok-names.names.items ≡ c.args.mods.now = c.in_ok-names.ensures.items_if_clones_equal copied in grind rules
