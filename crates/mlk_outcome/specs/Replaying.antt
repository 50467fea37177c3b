-- What the replay of a text of events answers. This project's own choice.
use Rattle.std.specs.Prelude.{◌≡◌, ◌⊎◌, ℕ, Bool, true, false, List, map, Some, Ok, Err, find}
use Rattle.mlk_syntax.specs.declared.routine.Routine.{Routine}
use Rattle.mlk_syntax.specs.Trees.{RoutineTree}
use Rattle.mlk_syntax.specs.Views.{routine_of}
use Rattle.mlk_program.specs.declared.entry.EntryId.{EntryId}
use Rattle.mlk_program.specs.Entries.{entry_by}
use Rattle.mlk_rules.specs.declared.rules.RuleLists.{RuleLists}
use Rattle.mlk_make.specs.Missing.{is_missing}
use Rattle.mlk_machine.specs.Running.{Running}
use Rattle.mlk_machine.specs.Systems.{jobs_in, routines_in}
use Rattle.mlk_machine.specs.Files.{ReplayedFile}
use Rattle.mlk_machine_view.specs.Printed.{system_text}
use Rattle.mlk_replay_text.specs.Explained.{IsExplained}
use Rattle.mlk_machine.specs.declared.fault.EventsFault.{EventsFault}
use Rattle.mlk_text.specs.declared.failure.Failure.{Failure}
use Rattle.mlk_pool.specs.declared.error.CheckError.TheVariants as error
use Rattle.mlk_outcome.specs.Refusals.{no_memory, refusal_of_events}
use Rattle.mlk_outcome.specs.declared.replaying.Showing.{Showing}
use Rattle.mlk_outcome.specs.declared.replaying.Showing.TheVariants as showing
use Rattle.mlk_outcome.specs.declared.refusal.NoReport.{NoReport}
use Rattle.mlk_outcome.specs.declared.refusal.NoReport.TheVariants as refusal

-- each text names an entry: these
abbrev pub AreDeclared : List RoutineTree → List (List ℕ) → List EntryId → Type 0
AreDeclared trees texts entries = map Some entries ≡ map (entry_by trees) texts

-- what is reported of an entry that is missing, unless memory runs out
abbrev pub ReportsEntry : List ℕ → NoReport → Type 0
ReportsEntry entry r = (r ≡ no_memory) ⊎ (r ≡ refusal.Check (error.Entry entry))

-- The first text that names none is reported, unless memory runs out.
abbrev pub IsUndeclared : List RoutineTree → List (List ℕ) → NoReport → Type 0
IsUndeclared trees texts r = (r ≡ no_memory)
    ⊎ ((entry : List ℕ) × (find (is_missing trees) texts ≡ Some entry) × (r ≡ refusal.Check (error.Entry entry)))

-- the text is plain, or explained
abbrev pub has_notes : Showing → Bool
has_notes showing.Plain = false
has_notes (showing.Explained texts) = true

abbrev pub IsShownAs : Bool → List ℕ → List ℕ → Type 0
IsShownAs false plain text = text ≡ plain
IsShownAs true plain text = IsExplained plain text

-- There is a system after all lines of a file of events, and the text is what is shown of it, explained or not.
abbrev pub IsShown : Bool → List Routine → List EntryId → List ℕ → List ℕ → Type 0
IsShown explained routines entries events text =
    (s : Running) × ReplayedFile routines entries events (Ok s)
    × IsShownAs explained (system_text (routines_in s) (jobs_in s)) text

-- There is none: the line at which that stops, and why, is reported.
abbrev pub IsStopped : List Routine → List EntryId → List ℕ → NoReport → Type 0
IsStopped routines entries events r = (e : Failure EventsFault) × ReplayedFile routines entries events (Err e) × (r ≡ refusal_of_events e)

-- the jobs run these routines, from the declared entries
pub record IsReplayed (explained : Bool) (trees : List RoutineTree) (rules : RuleLists) (events text : List ℕ) : Type 0 where
  pub routines : List Routine
  pub are : map routine_of routines ≡ trees
  pub entries : List EntryId
  pub declared : AreDeclared trees rules.entries entries
  pub shown : IsShown explained routines entries events text

pub record IsStoppedThere (trees : List RoutineTree) (rules : RuleLists) (events : List ℕ) (r : NoReport) : Type 0 where
  pub routines : List Routine
  pub are : map routine_of routines ≡ trees
  pub entries : List EntryId
  pub declared : AreDeclared trees rules.entries entries
  pub stopped : IsStopped routines entries events r

-- Why nothing is shown: the first declared entry that is not in the routines, before what is wrong with the events.
abbrev pub IsUnreplayed : List RoutineTree → RuleLists → List ℕ → NoReport → Type 0
IsUnreplayed trees rules events r = IsUndeclared trees rules.entries r ⊎ IsStoppedThere trees rules events r
