-- Parts of lines, as the code has them. For private clauses only.
use Rattle.std.specs.Prelude.{◌≡◌, ◌++◌, List, map, Option, option_map, option_copied}
use Rattle.mlk_syntax.specs.Trees.{HeadTree, LineTrees, RoutineTree}
use Rattle.mlk_syntax.specs.Views.{line_of, lines_from}
use Rattle.mlk_program.specs.declared.entry.EntryId.{EntryId}
use Rattle.mlk_walk_state.specs.Scope.{Scope}
use Rattle.mlk_walk_lines.specs.Endings.{around_of, head_of}
use Rattle.mlk_walk_lines.specs.Lines.{Walked}
use Rattle.mlk_walk_lines.specs.Parts.{part_walk}
use Rattle.mlk_walk.specs.Verdicts.{entry_walk}
use Rattle.mlk_walk.specs.declared.parts.Part.{Part}
use Rattle.mlk_walk.specs.declared.parts.PartWalk.{PartWalk}

abbrev pub trees_of : Part → LineTrees
trees_of part = lines_from (map line_of part.lines.now)

abbrev pub after_of : Part → Option HeadTree
after_of part = option_map head_of (option_copied part.after)

abbrev pub walk_of : Scope → Part → Walked
walk_of sc part = part_walk sc (around_of part.around) (after_of part) (trees_of part)

abbrev pub IsWalk : Walked → PartWalk → Type 0
IsWalk walked w = (map (λ f. f.0) w.faults.items ≡ walked.faults) × (w.ends.items ≡ walked.ends)

-- the results of two parts, the first before the second
abbrev pub IsJoined : PartWalk → PartWalk → PartWalk → Type 0
IsJoined front back w = (w.faults.items ≡ front.faults.items ++ back.faults.items) × (w.ends.items ≡ front.ends.items ++ back.ends.items)

-- a part of all lines of an entry
abbrev pub IsOfEntry : List RoutineTree → EntryId → Part → Type 0
IsOfEntry trees entry part = (sc : Scope) → walk_of sc part ≡ entry_walk trees entry sc
