use Rattle.std.proofs.Common.{◌≡◌, filter, take}
use Rattle.mlk_pool.specs.Given.{is_certified}
use Rattle.mlk_pool.proofs.tasks.certified_entries.Given as goal

abbrev pub invariant-loop-entry : goal.invariant-loop-entry
invariant-loop-entry l = l.tasks.items ≡ filter (is_certified l.known.0) (take l.entry-index l.entries)
