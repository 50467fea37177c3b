use Rattle.std.proofs.Common.{◌≡◌, ◌++◌, length, map, Some}
use Rattle.std.specs.Prelude.{find}
use Rattle.mlk_syntax.specs.Views.{routine_of}
use Rattle.mlk_program.specs.Entries.{entry_by}
use Rattle.mlk_make.specs.Missing.{is_missing}
use Rattle.mlk_outcome.proofs.replaying.declared_entries.Given as goal

abbrev pub invariant-loop-text : goal.invariant-loop-text
invariant-loop-text l = record {
  found : map Some l.found.items ++ map (entry_by (map routine_of l.program)) l.left ≡ map (entry_by (map routine_of l.program)) l.texts;
  first : find (is_missing (map routine_of l.program)) l.left ≡ find (is_missing (map routine_of l.program)) l.texts;
}

abbrev pub decreases-loop-text : goal.decreases-loop-text
decreases-loop-text l = length l.left
