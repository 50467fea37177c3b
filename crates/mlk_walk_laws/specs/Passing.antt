-- What it means that no fault is found in an entry's lines: from each case that is listed at a line, all results of the line
-- are accepted at its end. This project's own.
use Rattle.std.specs.Prelude.{◌≡◌, List, [], ◌∷◌, Option}
use Rattle.mlk_names.specs.Lists.{Among}
use Rattle.mlk_cert_parts.specs.declared.case.Case.{Case}
use Rattle.mlk_syntax.specs.Trees.{HeadTree, LineHead, LineTrees, no_lines, line}
use Rattle.mlk_walk_state.specs.declared.state.State.{State}
use Rattle.mlk_walk_state.specs.Scope.{Scope, listed}
use Rattle.mlk_walk_exprs.specs.declared.walk.Walk.{Walk}
use Rattle.mlk_walk_exprs.specs.declared.walk.Quit.{Quit}
use Rattle.mlk_walk_exprs.specs.declared.spot.Block.{Block}
use Rattle.mlk_walk_exprs.specs.Walks.{begin}
use Rattle.mlk_walk_lines.specs.Loops.{commands}
use Rattle.mlk_walk_lines.specs.Endings.{Ending, Faulty, Leaves, Passes, Around, OfBlock, LineEnd, state_end, case_end, quit_end}
use Rattle.mlk_walk_lines.specs.Lines.{next_head, block_with, walk_lines}
use Rattle.mlk_walk_laws.specs.Fewer.{IsClean, ListsEachOnce}

-- nothing is refused, and a block ends in one of the cases in which it may end
abbrev pub IsRight : List Case → Ending → Type 0
IsRight ends (Faulty number column code) = ⊥
IsRight ends (Leaves c) = Among c ends
IsRight ends Passes = Unit {0}

-- the results of a walk are accepted at the line's end
pub record GoesWell (e : LineEnd) (ends : List Case) (w : Walk) : Type 0 where
  pub clean : IsClean w
  pub going : (s : State) → Among s w.going → IsRight ends (state_end e s)
  pub skips : (c : Case) → Among c w.skips → IsRight ends (case_end e c)
  pub quits : (q : Quit) → Among q w.quits → IsRight ends (quit_end e q)

-- from each case that is listed at the line, alone
abbrev pub PassesFromEach : Scope → Around → Option HeadTree → Option Block → List Case → HeadTree → Type 0
PassesFromEach sc around next block ends (LineHead number level end label formals cs) =
    (c : Case) → Among c (listed sc number 0)
    → GoesWell (record { scope = sc; around = around; next = next; line = number; level = level; column = end }) ends
    (commands (record { scope = sc; line = number; level = level; block = block; word = 1 }) cs (begin (c ∷ [])))

-- each of the lines of one level, and of the blocks below them, each with the cases in which its block may end
abbrev pub EachLinePasses : Scope → Around → List Case → LineTrees → Type 0
EachLinePasses sc around ends no_lines = Unit {0}
EachLinePasses sc around ends (line head block rest) =
    PassesFromEach sc around (next_head around rest) (block_with block (walk_lines sc OfBlock block).ends) ends head
    × EachLinePasses sc OfBlock (walk_lines sc OfBlock block).ends block
    × EachLinePasses sc around ends rest

-- If the walk of lines finds no fault, each of them passes from each case that is listed at it.
abbrev pub LinesPass : Type 0
LinesPass =
    (sc : Scope) (around : Around) (lines : LineTrees) → ListsEachOnce sc → (walk_lines sc around lines).faults ≡ []
    → EachLinePasses sc around (walk_lines sc around lines).ends lines
