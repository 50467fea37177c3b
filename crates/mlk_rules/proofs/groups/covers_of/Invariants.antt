use Rattle.std.proofs.Common.{◌≡◌, ◌++◌, drop}
use Rattle.mlk_rules.specs.Groups.{covers_of}
use Rattle.mlk_rules.proofs.groups.covers_of.Given as goal

abbrev pub invariant-loop-cover : goal.invariant-loop-cover
invariant-loop-cover l = l.items.items ++ covers_of l.name (drop l.cover-index l.covers) ≡ covers_of l.name l.covers
