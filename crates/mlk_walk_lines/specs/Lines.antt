-- Lines: each is walked from the cases that the certificate lists at its start, to the cases listed at the next line of
-- its level, to the block's end, or to the frame's. Standard: line structure, levels.
use Rattle.std.specs.Prelude.{ℕ, List, [], ◌++◌, map, Option, Some, None}
use Rattle.mlk_syntax.specs.Trees.{HeadTree, LineHead, LineTrees, no_lines, line}
use Rattle.mlk_cert_parts.specs.declared.case.Case.{Case}
use Rattle.mlk_walk_state.specs.Scope.{Scope, listed}
use Rattle.mlk_walk_exprs.specs.declared.spot.Block.{Block}
use Rattle.mlk_walk_exprs.specs.declared.walk.Fault.{Fault}
use Rattle.mlk_walk_exprs.specs.Walks.{begin}
use Rattle.mlk_walk_lines.specs.declared.ending.Ends.{Ends}
use Rattle.mlk_walk_lines.specs.declared.found.LineFault.{LineFault}
use Rattle.mlk_walk_lines.specs.Loops.{commands}
use Rattle.mlk_walk_lines.specs.Endings.{Around, OfBlock, OfFrame, number_of, at_end}

-- The result of the walk of lines of one level and of their blocks: the faults, each with the line whose walk found it, and
-- the cases in which the block that contains the lines may end.
pub record Walked : Type 0 where
  pub faults : List LineFault
  pub ends : List Case

-- the line at which a job continues, if there is one
abbrev pub next_head : Around → LineTrees → Option HeadTree
next_head around (line head block rest) = Some head
next_head OfBlock no_lines = None
next_head (OfFrame after) no_lines = after

-- a line's block, with the cases in which it may end
abbrev pub block_with : LineTrees → List Case → Option Block
block_with no_lines ends = None
block_with (line head block rest) ends = Some (record { first = number_of head; ends = ends })

-- the walk of a line to its end
abbrev pub head_walk : Scope → Around → Option HeadTree → Option Block → HeadTree → Ends
head_walk sc around next block (LineHead number level end label formals cs) =
    at_end (record { scope = sc; around = around; next = next; line = number; level = level; column = end })
    (commands (record { scope = sc; line = number; level = level; block = block; word = 1 }) cs
    (begin (listed sc number 0)))

abbrev pub line_walk : Scope → Around → Option HeadTree → HeadTree → LineTrees → Walked → Ends
line_walk sc around next head block inner = head_walk sc around next (block_with block inner.ends) head

abbrev pub found_in : ℕ → Fault → LineFault
found_in number f = record { walked = number; fault = f }

-- the results of a line's block, of the line itself and of the later lines
abbrev pub with_line : ℕ → Walked → Ends → Walked → Walked
with_line number inner own later = record {
  faults = inner.faults ++ (map (found_in number) own.faults ++ later.faults);
  ends = own.cases ++ later.ends;
}

-- The walk of lines, each from the cases listed for it, and of their blocks. A block may end in each of its lines.
abbrev pub walk_lines : Scope → Around → LineTrees → Walked
walk_lines sc around no_lines = record { faults = []; ends = [] }
walk_lines sc around (line head block rest) =
    with_block sc around head block rest (walk_lines sc OfBlock block) (walk_lines sc around rest)
  where
    with_block : Scope → Around → HeadTree → LineTrees → LineTrees → Walked → Walked → Walked
    with_block sc around head block rest inner later = with_line (number_of head) inner
        (line_walk sc around (next_head around rest) head block inner) later
