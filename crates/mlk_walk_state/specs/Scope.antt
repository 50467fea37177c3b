-- The input of the walk of an entry's lines. This project's own choice.
use Rattle.std.specs.Prelude.{ℕ, ◌≡◌, ◌-◌, Bool, ◌&&◌, ◌||◌, ◌==◌, nat_lt, not, false, if◌then◌else◌}
use Rattle.std.specs.Prelude.{List, [], ◌∷◌, ◌++◌, map, find, filter, filter_map}
use Rattle.std.specs.Prelude.{Option, Some, None, option_map, option_and_then, slice_get}
use Rattle.std.specs.List.{list_any, list_all}
use Rattle.mlk_syntax.specs.declared.expr.Callee.{Callee}
use Rattle.mlk_syntax.specs.Trees.{RoutineTree, HeadTree, LineTrees}
use Rattle.mlk_program.specs.declared.entry.EntryId.{EntryId}
use Rattle.mlk_syntax.specs.Views.{routine_of}
use Rattle.mlk_program.specs.Entries.{entry_by, same_entry, target_of, lines_of}
use Rattle.mlk_program.specs.Program.{is_shared, is_shared_in}
use Rattle.mlk_walk_state.specs.declared.scope.Scope.{Scope as GivenScope}
use Rattle.mlk_rules.specs.declared.rules.RuleLists.{RuleLists}
use Rattle.mlk_cert_parts.specs.declared.names.Own.{Own}
use Rattle.mlk_cert_parts.specs.declared.case.Case.{Case}
use Rattle.mlk_cert_parts.specs.declared.block.Point.{Point}
use Rattle.mlk_cert_parts.specs.declared.block.Summary.{Summary}
use Rattle.mlk_cert_parts.specs.declared.block.EntryCert.{EntryCert}
use Rattle.mlk_walk_state.specs.Names.{is_own}

abbrev pub is_entry : EntryId → Option EntryId → Bool
is_entry e None = false
is_entry e (Some f) = same_entry e f

abbrev pub names_entry : List RoutineTree → EntryId → List ℕ → Bool
names_entry routines e text = is_entry e (entry_by routines text)

abbrev pub is_declared : List RoutineTree → List (List ℕ) → EntryId → Bool
is_declared routines texts e = list_any (names_entry routines e) texts

-- the first block that names the entry; a further one is never used
abbrev pub block_of : List RoutineTree → List EntryCert → EntryId → Option EntryCert
block_of routines blocks e = find (λ (b : EntryCert). names_entry routines e b.entry) blocks

-- the cases of a point; a point that the lines don't have is never looked up
abbrev pub is_at : ℕ → ℕ → Point → Bool
is_at number round p = (p.line == number) && (p.round == round)

abbrev pub cases_of : Option Point → List Case
cases_of None = []
cases_of (Some p) = p.cases

abbrev pub listed_at : List Point → ℕ → ℕ → List Case
listed_at points number round = cases_of (find (is_at number round) points)

-- a point of an earlier line
abbrev pub is_earlier : ℕ → Point → Bool
is_earlier number p = nat_lt p.line number

-- what is known of entries, in two tables: the blocks of the certified ones, and the declared ones
abbrev pub block_at : List (EntryId × EntryCert) → EntryId → Option EntryCert
block_at [] e = None
block_at (b ∷ blocks) e = if same_entry e b.0 then Some b.1 else block_at blocks e

abbrev pub has_entry : List EntryId → EntryId → Bool
has_entry entries e = list_any (same_entry e) entries

-- the first item of each entry, in order
abbrev pub firsts : {A : Type 0} → (A → EntryId) → List A → List A
firsts entry [] = []
firsts entry (a ∷ items) = a ∷ filter (λ b. not (same_entry (entry a) (entry b))) (firsts entry items)

-- The certified entries in the order of their blocks, each with its first block; a block that does not name an entry is
-- ignored.
abbrev pub block_in : List RoutineTree → EntryCert → Option (EntryId × EntryCert)
block_in routines b = option_map (λ e. (e, b)) (entry_by routines b.entry)

unfoldable pub certified : List RoutineTree → List EntryCert → List (EntryId × EntryCert)
certified routines blocks = firsts (λ p. p.0) (filter_map (block_in routines) blocks)

-- the declared entries in the order of the rules, each once; a text that does not name an entry is ignored
unfoldable pub declared : List RoutineTree → List (List ℕ) → List EntryId
declared routines texts = firsts (λ e. e) (filter_map (entry_by routines) texts)

-- for each entry, the tables agree with its block and with the rules
pub record AreEntries (routines : List RoutineTree) (blocks : List EntryCert) (texts : List (List ℕ))
    (found : List (EntryId × EntryCert) × List EntryId) : Type 0 where
  pub certified : (e : EntryId) → block_at found.0 e ≡ block_of routines blocks e
  pub declared : (e : EntryId) → has_entry found.1 e ≡ is_declared routines texts e

-- the program's routines, the index of the one that is walked, and that of the walked entry's line among the routine's lines of
-- level 1; the rules; the certified entries with their blocks, and the declared ones; the walked entry's own summary, whether it
-- is declared, and its points; and which names are shared in a frame with given own names
pub record Scope : Type 0 where
  pub routines : List RoutineTree
  pub own : ℕ
  pub line : ℕ
  pub rules : RuleLists
  pub blocks : List (EntryId × EntryCert)
  pub declared_entries : List EntryId
  pub summary : Summary
  pub declared : Bool
  pub points : List Point
  pub is_shared : List Own → List ℕ → Bool

-- the summary of a certified entry; whether a job may begin at an entry; the cases listed at a line and round
abbrev pub summary_for : Scope → EntryId → Option Summary
summary_for sc e = option_map (λ (b : EntryCert). b.summary) (block_at sc.blocks e)

abbrev pub begins_jobs : Scope → EntryId → Bool
begins_jobs sc e = has_entry sc.declared_entries e

abbrev pub listed : Scope → ℕ → ℕ → List Case
listed sc number round = listed_at sc.points number round

-- the line of an entry, and the line that a callee names, if it is one of the walked entry's lines
abbrev pub line_within : Scope → EntryId → Option (HeadTree × LineTrees)
line_within sc e =
    if e.routine == sc.own then (if nat_lt e.line sc.line then None
    else slice_get (lines_of sc.routines (record { routine = sc.own; line = sc.line })) (e.line - sc.line)) else None

abbrev pub own_line : Scope → Callee → Option (HeadTree × LineTrees)
own_line sc callee = option_and_then (line_within sc) (target_of sc.routines sc.own callee)

-- whether all points are on earlier lines
abbrev pub is_past : Scope → ℕ → Bool
is_past sc number = list_all (is_earlier number) sc.points

-- Whether a name is shared in a frame of an entry with these own names. A name that is own there has a cell of the frame's own,
-- which another name reaches only because of this very entry: it is a formal that receives a name by reference, or the entry
-- passes it. A name that is not own is one of a caller's, and shared if some call of the program shares it.
abbrev pub shared_in_frame : List RoutineTree → EntryId → List Own → List ℕ → Bool
shared_in_frame routines e own name = is_shared routines name && (not (is_own own name) || is_shared_in routines e name)

-- The scope of an entry and of its block, whose claims the walk checks.
abbrev pub scope_with :
    List RoutineTree → RuleLists → List (EntryId × EntryCert) × List EntryId → EntryId → EntryCert → Scope
scope_with routines rules entries e b = record {
  routines = routines;
  own = e.routine;
  line = e.line;
  rules = rules;
  blocks = entries.0;
  declared_entries = entries.1;
  summary = b.summary;
  declared = has_entry entries.1 e;
  points = b.points;
  is_shared = shared_in_frame routines e;
}

-- the scope in which these names count as own, too, when shared names are looked up
abbrev pub counting : List Own → Scope → Scope
counting more sc = record sc { is_shared = λ own name. sc.is_shared (more ++ own) name }

-- given a program, its rules and its certificate
abbrev pub entry_scope : List RoutineTree → RuleLists → List EntryCert → EntryId → EntryCert → Scope
entry_scope routines rules blocks e b =
    scope_with routines rules (certified routines blocks, declared routines rules.entries) e b

-- the scope of the code's value
abbrev pub scope_of : GivenScope → Scope
scope_of g = counting g.counted.now (scope_with (map routine_of g.program.now) g.rules.now g.entries.now g.entry g.block.now)
