-- The end of a line: a case continues at the next line of its level, or its block ends, or its frame. Standard: line
-- structure, levels, DO, QUIT; that a job stops before a line with a formal list, and the checks at an end, are this
-- project's own choice.
use Rattle.std.specs.Prelude.{ℕ, Bool, not, ◌&&◌, ◌==◌, if◌then◌else◌, List, [], ◌∷◌, ◌++◌, map}
use Rattle.std.specs.Prelude.{filter, fold, Option, Some, None, is_some, option_map, option_copied}
use Rattle.std.specs.List.{list_any}
use Rattle.mlk_text.specs.declared.code.Code.{Code}
use Rattle.mlk_text.specs.declared.code.Code.TheVariants.{HeldAtEnd, CaseNotListed, FallsIntoFormals, NameEscapes}
use Rattle.mlk_syntax.specs.Trees.{HeadTree, LineHead}
use Rattle.mlk_program.specs.Entries.{formals_of}
use Rattle.mlk_cert_parts.specs.declared.case.Test.{Test}
use Rattle.mlk_cert_parts.specs.declared.case.Case.{Case}
use Rattle.mlk_cert_parts.specs.declared.names.Own.{Own}
use Rattle.mlk_walk_state.specs.Names.{is_among, is_own}
use Rattle.mlk_walk_state.specs.Terms.{mention, mention_such}
use Rattle.mlk_walk_state.specs.Cases.{is_listed, is_exit, holds_some, last_saved, before_last}
use Rattle.mlk_walk_state.specs.declared.state.State.{State}
use Rattle.mlk_walk_state.specs.Scope.{Scope, listed, scope_of}
use Rattle.mlk_walk_exprs.specs.declared.walk.Quit.{Quit}
use Rattle.mlk_walk_exprs.specs.declared.walk.Walk.{Walk}
use Rattle.mlk_syntax.specs.declared.routine.Line.{Line}
use Rattle.mlk_syntax.specs.Views.{line_of}
use Rattle.mlk_walk_lines.specs.declared.ending.Ends.{Ends}
use Rattle.mlk_walk_lines.specs.declared.line_end.Around.{Around as GivenAround}
use Rattle.mlk_walk_lines.specs.declared.line_end.Around.TheVariants as given
use Rattle.mlk_walk_lines.specs.declared.line_end.LineEnd.{LineEnd as GivenEnd}

-- The ending of a case: it is refused at a place, its block ends in it, or nothing more is checked here, since it continues at a
-- line that lists it or the entry's summary has an exit for it.
pub data Ending : Type 0 where
  Faulty : (line column : ℕ) → (code : Code) → Ending
  Leaves : (c : Case) → Ending
  Passes : Ending

-- What contains lines of one level: a block, or an entry's frame, with the line that follows the entry's lines.
pub data Around : Type 0 where
  OfBlock : Around
  OfFrame : (after : Option HeadTree) → Around

abbrev pub number_of : HeadTree → ℕ
number_of (LineHead number level end label formals cs) = number

-- The end of a line: the scope of the walk, what contains the lines of its level, the next of them, its number and level, and
-- the column after its last byte.
pub record LineEnd : Type 0 where
  pub scope : Scope
  pub around : Around
  pub next : Option HeadTree
  pub line : ℕ
  pub level : ℕ
  pub column : ℕ

-- the values of the code
abbrev pub head_of : Line → HeadTree
head_of l = (line_of l).0

abbrev pub around_of : GivenAround → Around
around_of given.Block = OfBlock
around_of (given.Frame after) = OfFrame (option_map head_of (option_copied after))

abbrev pub end_of : GivenEnd → LineEnd
end_of e = record {
  scope = scope_of e.scope.now;
  around = around_of e.around;
  next = option_map head_of (option_copied e.next);
  line = e.line;
  level = e.level;
  column = e.column;
}

-- 716 if the next line has a formal list, 710 if this case is not listed at its start
abbrev pub into_line : Scope → HeadTree → Case → Ending
into_line sc head c =
    if is_some (formals_of head) then Faulty (number_of head) 1 FallsIntoFormals
    else if is_listed (listed sc (number_of head) 0) c then Passes
    else Faulty (number_of head) 1 CaseNotListed

-- The end of a block: 718 if a held term mentions a name that is own at its level; such names are no longer own, and the saved
-- `$TEST` is `$TEST` again. A case without a saved `$TEST` describes no job in a block: it is not checked.
abbrev pub is_at_level : ℕ → Own → Bool
is_at_level level o = o.level == level

abbrev pub escapes_block : ℕ → Case → Own → Bool
escapes_block level c o = is_at_level level o && mention (o.names ∷ []) c.held

abbrev pub is_left : ℕ → Own → Bool
is_left level o = not (is_at_level level o)

abbrev pub restored : ℕ → Test → Case → Case
restored level t c = record c { test = t; own = filter (is_left level) c.own; saved = before_last c.saved }

abbrev pub block_end : LineEnd → ℕ → Case → Option Test → Ending
block_end e column c None = Passes
block_end e column c (Some t) =
    if list_any (escapes_block e.level c) c.own then Faulty e.line column NameEscapes
    else Leaves (restored e.level t c)

-- The end of a frame: 709 if the entry is declared and a lock is held, 718 if a held term mentions an own name that is not kept,
-- 710 if no exit says no more. Saved tests are not looked at there.
abbrev pub escapes : Case → List ℕ → Bool
escapes c name = is_own c.own name && not (is_among c.kept name)

abbrev pub frame_end : LineEnd → ℕ → Case → Ending
frame_end e column c =
    if e.scope.declared && holds_some c.held then Faulty e.line column HeldAtEnd
    else if mention_such (escapes c) c.held then Faulty e.line column NameEscapes
    else if is_exit e.scope.summary.exits c then Passes
    else Faulty e.line column CaseNotListed

-- the end of the lines of a level, at a QUIT's column or at the column after the last line
abbrev pub level_end : Around → LineEnd → ℕ → Case → Ending
level_end OfBlock e column c = block_end e column c (last_saved c.saved)
level_end (OfFrame after) e column c = frame_end e column c

abbrev pub quit_end : LineEnd → Quit → Ending
quit_end e q = level_end e.around e q.column q.case

abbrev pub continuation : Option HeadTree → LineEnd → Case → Ending
continuation None e c = level_end e.around e e.column c
continuation (Some head) e c = into_line e.scope head c

abbrev pub case_end : LineEnd → Case → Ending
case_end e c = continuation e.next e c

-- the cases that are listed at the next line, for private clauses only
abbrev pub listed_in : Scope → Option HeadTree → List Case
listed_in sc None = []
listed_in sc (Some head) = listed sc (number_of head) 0

abbrev pub listed_ahead : LineEnd → List Case
listed_ahead e = listed_in e.scope e.next

-- The endings of a line's cases: of those that are live or skipped, and of those that quit.
abbrev pub state_end : LineEnd → State → Ending
state_end e s = case_end e s.case

abbrev pub endings : LineEnd → Walk → List Ending
endings e w = map (state_end e) w.going ++ (map (case_end e) w.skips ++ map (quit_end e) w.quits)

-- the faults of a line, and the cases in which its block may end there
abbrev pub Ended : Type 0
Ended = Ends

abbrev pub add_ending : Ends → Ending → Ends
add_ending ends (Faulty line column code) =
    record ends { faults = ends.faults ++ record { line = line; column = column; code = code } ∷ [] }
add_ending ends (Leaves c) = record ends { cases = ends.cases ++ c ∷ [] }
add_ending ends Passes = ends

abbrev pub add_endings : List Ending → Ends → Ends
add_endings new ends = fold add_ending ends new

-- If the walk of a line is over, there are no cases left, but the faults are kept.
abbrev pub faults_of : Walk → Ends
faults_of w = record { faults = w.faults; cases = [] }

abbrev pub at_end : LineEnd → Walk → Ends
at_end e w = if w.over then faults_of w else add_endings (endings e w) (faults_of w)
