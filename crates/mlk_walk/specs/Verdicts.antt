-- The verdict of an entry: the faults of its begin, of its exits and of its lines. This project's own choice.
use Rattle.std.specs.Prelude.{ℕ, ◌==◌, Bool, ◌&&◌, if◌then◌else◌, List, [], ◌∷◌, ◌++◌, map, filter, Option, Some, None}
use Rattle.std.specs.Prelude.{option_map}
use Rattle.std.specs.List.{list_any}
use Rattle.mlk_text.specs.declared.code.Code.{Code}
use Rattle.mlk_text.specs.declared.code.Code.TheVariants.{HeldAtEnd, CaseNotListed, NeedMissing, NoCertificate}
use Rattle.mlk_syntax.specs.Trees.{RoutineTree, HeadTree, LineTrees}
use Rattle.mlk_syntax.specs.Views.{lines_from}
use Rattle.mlk_program.specs.declared.entry.EntryId.{EntryId}
use Rattle.mlk_program.specs.Entries.{line_of_entry, line_after, lines_of}
use Rattle.mlk_cert_parts.specs.declared.case.Test.TheVariants.{Any}
use Rattle.mlk_cert_parts.specs.declared.case.Case.{Case}
use Rattle.mlk_cert_parts.specs.declared.case.ExitCase.{ExitCase}
use Rattle.mlk_cert_parts.specs.declared.names.NameSet.TheVariants.{Only}
use Rattle.mlk_cert_parts.specs.declared.names.Own.{Own}
use Rattle.mlk_cert_parts.specs.declared.block.Summary.{Summary}
use Rattle.mlk_cert_parts.specs.declared.block.EntryCert.{EntryCert}
use Rattle.mlk_rules.specs.declared.rules.RuleLists.{RuleLists}
use Rattle.mlk_walk_state.specs.Cases.{is_listed, holds_some}
use Rattle.mlk_walk_state.specs.Scope.{Scope, certified, declared, block_at, listed, scope_with}
use Rattle.mlk_calls.specs.Calls.{formals_in}
use Rattle.mlk_calls.specs.Order.{in_order}
use Rattle.mlk_walk_exprs.specs.declared.walk.Fault.{Fault}
use Rattle.mlk_walk_lines.specs.declared.found.LineFault.{LineFault}
use Rattle.mlk_walk_lines.specs.Endings.{OfFrame, number_of}
use Rattle.mlk_walk_lines.specs.Lines.{Walked, walk_lines}
use Rattle.mlk_walk.specs.Faults.{ascending}

abbrev pub fault_at : ℕ → ℕ → Code → Fault
fault_at number column code = record { line = number; column = column; code = code }

-- The case in which an entry begins: its needs are held, its formals are own and kept.
abbrev pub own_formal : List ℕ → Own
own_formal name = record { level = 1; names = Only name }

abbrev pub begin_case : Summary → List (List ℕ) → Case
begin_case summary formals = record {
  test = Any;
  held = summary.need;
  own = map own_formal (in_order formals);
  kept = in_order formals;
  saved = [];
}

-- 710 if the case in which the entry begins is not listed at its line
abbrev pub begin_faults : Scope → ℕ → List (List ℕ) → List Fault
begin_faults sc number formals =
    if is_listed (listed sc number 0) (begin_case sc.summary formals) then [] else fault_at number 1 CaseNotListed ∷ []

-- A declared entry has no needs: 711; and no exit of it leaves a lock held: 709.
abbrev pub need_faults : Scope → ℕ → List Fault
need_faults sc number = if sc.declared && holds_some sc.summary.need then fault_at number 1 NeedMissing ∷ [] else []

abbrev pub leaves_some : ExitCase → Bool
leaves_some x = holds_some x.held

abbrev pub exit_faults : Scope → ℕ → List Fault
exit_faults sc number =
    if sc.declared && list_any leaves_some sc.summary.exits then fault_at number 1 HeldAtEnd ∷ [] else []

abbrev pub own_faults : Scope → ℕ → List (List ℕ) → List Fault
own_faults sc number formals =
    begin_faults sc number formals ++ (need_faults sc number ++ exit_faults sc number)

-- the head of the line after an entry's lines
abbrev pub head_after : List RoutineTree → EntryId → Option HeadTree
head_after routines e = option_map (λ l. l.0) (line_after routines e)

-- the result of the walk of an entry's lines
abbrev pub entry_walk : List RoutineTree → EntryId → Scope → Walked
entry_walk routines e sc = walk_lines sc (OfFrame (head_after routines e)) (lines_from (lines_of routines e))

abbrev pub entry_number : Option (HeadTree × LineTrees) → ℕ
entry_number None = 1
entry_number (Some l) = number_of l.0

abbrev pub fault_in : LineFault → Fault
fault_in f = f.fault

abbrev pub all_faults : List RoutineTree → EntryId → Scope → List Fault
all_faults routines e sc =
    own_faults sc (entry_number (line_of_entry routines e)) (formals_in (line_of_entry routines e))
    ++ map fault_in (entry_walk routines e sc).faults

-- What is known of entries, in two tables: the certified ones, each with its block, and the declared ones.
abbrev pub known : List RoutineTree → RuleLists → List EntryCert → List (EntryId × EntryCert) × List EntryId
known routines rules blocks = (certified routines blocks, declared routines rules.entries)

abbrev pub faults_with :
    List RoutineTree → RuleLists → List (EntryId × EntryCert) × List EntryId → EntryId → Option EntryCert → List Fault
faults_with routines rules entries e None = fault_at (entry_number (line_of_entry routines e)) 1 NoCertificate ∷ []
faults_with routines rules entries e (Some b) = all_faults routines e (scope_with routines rules entries e b)

-- The faults of an entry: without a block it is 713 at its line.
unfoldable pub entry_faults :
    List RoutineTree → RuleLists → List (EntryId × EntryCert) × List EntryId → EntryId → List Fault
entry_faults routines rules entries e = faults_with routines rules entries e (block_at entries.0 e)

-- the verdict: each of them once, in order
abbrev pub verdict : List RoutineTree → RuleLists → List (EntryId × EntryCert) × List EntryId → EntryId → List Fault
verdict routines rules entries e = ascending (entry_faults routines rules entries e)

-- The faults of an entry that the walk of one line finds, none for a line that is not one of the entry's.
abbrev pub is_of : ℕ → LineFault → Bool
is_of number f = f.walked == number

abbrev pub line_faults_with : List RoutineTree → RuleLists → List (EntryId × EntryCert) × List EntryId → EntryId → ℕ
    → Option EntryCert → List Fault
line_faults_with routines rules entries e number None = []
line_faults_with routines rules entries e number (Some b) =
    map fault_in (filter (is_of number) (entry_walk routines e (scope_with routines rules entries e b)).faults)

unfoldable pub line_faults :
    List RoutineTree → RuleLists → List (EntryId × EntryCert) × List EntryId → EntryId → ℕ → List Fault
line_faults routines rules entries e number = line_faults_with routines rules entries e number (block_at entries.0 e)
