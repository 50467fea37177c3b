use Rattle.std.proofs.Common.{◌≡◌, ◌++◌, map, drop}
use Rattle.mlk_machine_view.specs.Spelling.{holding_of}
use Rattle.mlk_machine_view.proofs.holding.holdings.Given as goal

abbrev pub invariant-loop-entry : goal.invariant-loop-entry
invariant-loop-entry l = l.found.items ++ map holding_of (drop l.entry-index l.entries) ≡ map holding_of l.entries
