-- How the runs of a certified entry are shown to be safe. This project's own choice.
use Rattle.std.specs.Prelude.{◌≡◌, ◌<◌, ℕ, true, false, List, [], Some}
use Rattle.mlk_syntax.specs.Trees.{RoutineTree, LineTrees, HeadTree}
use Rattle.mlk_syntax.specs.Views.{lines_from}
use Rattle.mlk_program.specs.Entries.{lines_of}
use Rattle.mlk_program.specs.declared.entry.EntryId.{EntryId}
use Rattle.mlk_cert_parts.specs.declared.block.EntryCert.{EntryCert}
use Rattle.mlk_rules.specs.declared.rules.RuleLists.{RuleLists}
use Rattle.mlk_walk_state.specs.Scope.{block_at}
use Rattle.mlk_walk_exprs.specs.Spots.{Spot}
use Rattle.mlk_walk_lines.specs.Endings.{OfBlock}
use Rattle.mlk_walk_lines.specs.Lines.{block_with, walk_lines}
use Rattle.mlk_walk.specs.Verdicts.{known}
use Rattle.mlk_walk.specs.Reports.{report}
use Rattle.mlk_walk_laws.specs.Fewer.{ListsEachOnce}
use Rattle.mlk_walk_laws.specs.Passing.{EachLinePasses}
use Rattle.mlk_soundness_machine.specs.Described.{World, IsWorld}
use Rattle.mlk_soundness_machine.specs.Places.{entry_trees, StandIn}
use Rattle.mlk_soundness_walk.specs.Commands.{CommandsAreSafe}
use Rattle.mlk_soundness_walk.specs.Entries.{scope, first_level, EntryFits}
use Rattle.mlk_soundness_walk.specs.Ours.{AreLinesOf}

-- commands of each certified entry's lines are safe for `n` steps
abbrev pub AllCommands : List RoutineTree → RuleLists → List (EntryId × EntryCert) × List EntryId → ℕ → Type 0
AllCommands routines rules entries n =
    (e : EntryId) (b : EntryCert) → block_at entries.0 e ≡ Some b → (w : World) → IsWorld (scope routines rules entries e b) w
    → (p : Spot) (head : HeadTree) (block : LineTrees) → p.scope ≡ scope routines rules entries e b → p.level ≡ 1
    → p.block ≡ block_with block (walk_lines (scope routines rules entries e b) OfBlock block).ends
    → AreLinesOf (scope routines rules entries e b) 2 false block
    → EachLinePasses (scope routines rules entries e b) OfBlock (walk_lines (scope routines rules entries e b) OfBlock block).ends block
    → ((lines : LineTrees) → StandIn lines block → StandIn lines (entry_trees routines w.entry))
    → CommandsAreSafe routines w (first_level w) p (head, block) n

-- If a report has no row, the lines of each certified entry are safe for each number of steps, provided that the commands of its
-- lines are safe for each number of steps if the lines of all entries are safe for each lesser number.
abbrev pub EntriesByCommands : Type 0
EntriesByCommands =
    (routines : List RoutineTree) (rules : RuleLists) (blocks : List EntryCert) → report routines rules blocks ≡ []
    → ((e : EntryId) (b : EntryCert) → block_at (known routines rules blocks).0 e ≡ Some b
    → ListsEachOnce (scope routines rules (known routines rules blocks) e b))
    → ((e : EntryId) (b : EntryCert)
    → AreLinesOf (scope routines rules (known routines rules blocks) e b) 1 true (lines_from (lines_of routines e)))
    → ((n : ℕ) → ((k : ℕ) → k < n → EntryFits routines rules (known routines rules blocks) k)
    → AllCommands routines rules (known routines rules blocks) n)
    → (n : ℕ) → EntryFits routines rules (known routines rules blocks) n
