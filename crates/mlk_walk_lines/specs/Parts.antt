-- Consecutive lines of one level, possibly not all of them, as in a walk that is cut into parts. For clauses of code and
-- proofs; the walk of all lines of a level is defined in Lines.antt.
use Rattle.std.specs.Prelude.{[], ◌++◌, Option, Some, None}
use Rattle.mlk_syntax.specs.Trees.{HeadTree, LineTrees, no_lines, line}
use Rattle.mlk_walk_state.specs.Scope.{Scope}
use Rattle.mlk_walk_lines.specs.Endings.{Around, OfBlock, OfFrame, number_of}
use Rattle.mlk_walk_lines.specs.Lines.{Walked, line_walk, walk_lines, with_line}

-- the line at which a job continues before later lines: the first of them, otherwise the one after all
abbrev pub first_or : Option HeadTree → LineTrees → Option HeadTree
first_or after no_lines = after
first_or after (line head block rest) = Some head

-- the walk of lines that are followed by a given line
abbrev pub part_walk : Scope → Around → Option HeadTree → LineTrees → Walked
part_walk sc around after no_lines = record { faults = []; ends = [] }
part_walk sc around after (line head block rest) =
    with_line (number_of head) (walk_lines sc OfBlock block)
    (line_walk sc around (first_or after rest) head block (walk_lines sc OfBlock block)) (part_walk sc around after rest)

-- the line after all lines of a level
abbrev pub after_all : Around → Option HeadTree
after_all OfBlock = None
after_all (OfFrame after) = after

-- the results of two parts, the first before the second
abbrev pub joined : Walked → Walked → Walked
joined front back = record { faults = front.faults ++ back.faults; ends = front.ends ++ back.ends }
