-- What a report without faults says of each certified entry. This project's own choice.
use Rattle.std.specs.Prelude.{◌≡◌, List, [], Some}
use Rattle.mlk_syntax.specs.Trees.{RoutineTree}
use Rattle.mlk_program.specs.Entries.{line_of_entry}
use Rattle.mlk_program.specs.declared.entry.EntryId.{EntryId}
use Rattle.mlk_cert_parts.specs.declared.block.EntryCert.{EntryCert}
use Rattle.mlk_rules.specs.declared.rules.RuleLists.{RuleLists}
use Rattle.mlk_walk_state.specs.Scope.{block_at, certified, scope_with}
use Rattle.mlk_calls.specs.Calls.{formals_in}
use Rattle.mlk_walk.specs.Verdicts.{known, begin_faults, need_faults, exit_faults, entry_number, entry_walk}
use Rattle.mlk_walk.specs.Reports.{report}

-- nothing is wrong with an entry: its begin, its needs, its exits and its lines
pub record IsCleanEntry (routines : List RoutineTree) (rules : RuleLists) (blocks : List EntryCert) (e : EntryId)
    (b : EntryCert) : Type 0 where
  pub begins : begin_faults (scope_with routines rules (known routines rules blocks) e b)
      (entry_number (line_of_entry routines e)) (formals_in (line_of_entry routines e)) ≡ []
  pub needs : need_faults (scope_with routines rules (known routines rules blocks) e b) (entry_number (line_of_entry routines e)) ≡ []
  pub exits : exit_faults (scope_with routines rules (known routines rules blocks) e b) (entry_number (line_of_entry routines e)) ≡ []
  pub lines : (entry_walk routines e (scope_with routines rules (known routines rules blocks) e b)).faults ≡ []

-- If a report has no row, nothing is wrong with any certified entry.
abbrev pub CleanEntries : Type 0
CleanEntries =
    (routines : List RoutineTree) (rules : RuleLists) (blocks : List EntryCert) → report routines rules blocks ≡ []
    → (e : EntryId) (b : EntryCert) → block_at (certified routines blocks) e ≡ Some b → IsCleanEntry routines rules blocks e b
